use Rattle.std.proofs.Common.{◌≡◌, ◌+◌, ◌≤◌, [], length}
use Rattle.std.specs.Str.Lines.{lines}
use Rattle.script.specs.Steps.{steps_from}
use Rattle.script.proofs.steps.read_list.Given as goal

abbrev pub decreases-loop-rest : goal.decreases-loop-rest
decreases-loop-rest g l = length l.rest

abbrev pub invariant-loop-rest : goal.invariant-loop-rest
invariant-loop-rest g l = record {
  count : l.number + length l.rest ≤ length l.text + 1;
  positive : 1 ≤ l.number;
  reads : steps_from l.tiles l.dims l.steps.items l.number (lines l.rest) ≡ steps_from l.tiles l.dims [] 1 (lines l.text);
}
