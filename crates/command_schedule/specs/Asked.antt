-- What is loaded for three texts, before the first step (this project's own format).
use Rattle.std.specs.Prelude.{◌≡◌, List, [], Result, Ok}
use Rattle.torus.specs.declared.step.Step.{Step}
use Rattle.lexer.specs.declared.fault.LineFault.{LineFault}
use Rattle.core_laws.specs.Machine.{Core, IsAfter}
use Rattle.machine_core.specs.Run.{AskedRun}

-- a machine has made no step of what is asked for, and these are the steps
pub record HasOpened (asked : Result AskedRun LineFault) (c : Core) (steps : List Step) : Type 0 where
  pub given : AskedRun
  pub read : asked ≡ Ok given
  pub after : IsAfter given.load c []
  pub are : steps ≡ given.steps
