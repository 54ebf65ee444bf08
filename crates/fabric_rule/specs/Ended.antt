-- The end of all scripts, as a run has it.
use Rattle.std.specs.Prelude.{◌≡◌, true, List}
use Rattle.torus.specs.declared.step.Step.{Step}
use Rattle.core_laws.specs.Core.{Load, after}
use Rattle.core_laws.specs.Machine.{all_finished}

-- every processor's follower has come to the end of its script after a run (this project's own
-- format)
abbrev pub AreAllFinished : Load → List Step → Type 0
AreAllFinished load run = all_finished (after load run) ≡ true
