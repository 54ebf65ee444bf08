-- How many operations the first lines of a script can make.
use Rattle.std.proofs.Common.{◌≡◌, ℕ, ◌+◌, ◌<◌, ◌≤◌, List, length, take, get_or}
use Rattle.std.specs.Prelude.{sum_by}
use Rattle.std.proofs.lemmas.List.Sums.{sum_by_more, sum_by-take-le}
use Rattle.script_lines.specs.declared.line.Line.{Line}
use Rattle.script_lines.specs.Lines.{operations_of, operation_count}

-- one line more
pub count_more : (lines : List Line) (i : ℕ) (d : Line) → i < length lines
    → sum_by operations_of (take (i + 1) lines) ≡ sum_by operations_of (take i lines) + operations_of (get_or lines i d)
count_more lines i d h = sum_by_more operations_of lines i d h

-- a part of the lines counts no more than all
pub count_within : (lines : List Line) (i : ℕ) → sum_by operations_of (take i lines) ≤ operation_count lines
count_within lines i = sum_by-take-le operations_of lines i
