use Rattle.std.proofs.Common.{◌≡◌, ◌*◌, ◌≤◌, length}
use Rattle.report_model.specs.Programs.{AreAllScripted, programs_of}
use Rattle.report_model.proofs.program.programs_of.Given as goal

-- the programs so far
abbrev pub invariant-loop-p : goal.invariant-loop-p
invariant-loop-p g l = record {
  steps : l.steps.items ≡ programs_of l.scripts.lists l.made l.p;
  scripted : AreAllScripted l.scripts.lists l.made l.p;
  few : length l.steps.items ≤ 393218 * l.p;
}
