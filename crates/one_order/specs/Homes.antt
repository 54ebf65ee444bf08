-- How many operations of a script have an address that is at home in a bank.
use Rattle.std.specs.Prelude.{ℕ, ◌%◌, ◌==◌, Bool, false, List, Option, Some, None, sum_by, count_by, if◌then◌else◌}
use Rattle.script_lines.specs.declared.line.Line.{Line}
use Rattle.script_lines.specs.Lines.{operations_of}
use Rattle.one_order.specs.Scripts.{Invocation, address_of}

-- whether an address is at home in bank b
abbrev pub is_home : ℕ → ℕ → Option ℕ → Bool
is_home tiles b None = false
is_home tiles b (Some a) = (a % tiles) == b

-- how many operations of a line can come to bank b; a spin counts its greatest number of loads
abbrev pub line_home_count : ℕ → ℕ → Line → ℕ
line_home_count tiles b line = if is_home tiles b (address_of line) then operations_of line else 0

-- how many of a script can
abbrev pub script_home_count : ℕ → ℕ → List Line → ℕ
script_home_count tiles b lines = sum_by (line_home_count tiles b) lines

-- how many of these operations, as they were issued, are at home in bank b
abbrev pub issued_home_count : ℕ → ℕ → List Invocation → ℕ
issued_home_count tiles b ops = count_by (λ o. (o.operation.address % tiles) == b) ops
