use Rattle.std.proofs.Common.{◌≡◌, ◌++◌, length}
use Rattle.std.specs.List.{flat_map}
use Rattle.std.specs.Str.Lines.{lines}
use Rattle.command_verdicts.specs.Json.{further_string}
use Rattle.command_verdicts.proofs.json.put_further.Given as goal

abbrev pub decreases-loop-line : goal.decreases-loop-line
decreases-loop-line g l = length l.rest

-- the lines so far, and those that are left
abbrev pub invariant-loop-line : goal.invariant-loop-line
invariant-loop-line g l =
    l.json.items ++ flat_map further_string (lines l.rest) ≡ l.fn.json.items ++ flat_map further_string (lines l.text)
