-- What whoever watches the workers of a run is told (this project's own format).
use Rattle.std.specs.Prelude.{◌≡◌, ℕ, ◌<◌, List, [], Bool, Result, Ok, Err}
use Rattle.torus.specs.Shape.{tiles_of}
use Rattle.torus.specs.declared.step.Step.{Step}
use Rattle.lexer.specs.declared.fault.LineFault.{LineFault}
use Rattle.one_order.specs.Load.{Load}
use Rattle.core_laws.specs.Machine.{core_after_load}
use Rattle.history.specs.Seats.{Knowing}
use Rattle.worker_run.specs.Calls.{Call}
use Rattle.worker_run.specs.Watching.{AreCallsOfRun}
use Rattle.program_fault.specs.declared.fault.ProgramFault.{ProgramFault}
use Rattle.program_fault.specs.declared.fault.ProgramFault.TheVariants as program
use Rattle.command_run.specs.Workers.{crew, tiles_of_worker}

-- A watcher hears all calls for a worker of a run of a load, by what may be all of them: those behind
-- the turns that it makes with its tiles from the empty run on, and its end. What the worker knows as
-- loaded leads to the same machines as the load.
pub record HearsPart (load : Load) (turns : ℕ) (tiles : List ℕ) (over : List Call → Type 0)
    : Type 0 where
  pub first : Knowing
  pub last : Knowing
  pub alike : (steps : List Step) → core_after_load first.load steps ≡ core_after_load load steps
  pub empty : first.run ≡ []
  pub holds : first.tiles ≡ tiles
  pub calls : List Call
  pub all : AreCallsOfRun (λ step. ⊥) turns first last calls
  pub heard : over calls

-- a watcher hears all calls for each of so many workers
abbrev pub HearsWorkers : Load → ℕ → ℕ → (ℕ → List Call → Type 0) → Type 0
HearsWorkers load workers turns over = (j : ℕ) → j < crew workers load
    → HearsPart load turns (tiles_of_worker (tiles_of load.shape) (crew workers load) j) (over j)

-- whoever watches the run by workers of what was asked for hears all calls, where the report was
-- written or the output failed
abbrev pub TellsWorkers : Result Load LineFault → ℕ → ℕ → (ℕ → List Call → Type 0)
    → Result Bool ProgramFault → Type 0
TellsWorkers asked workers turns over (Ok finished) =
    (load : Load) × (asked ≡ Ok load) × HearsWorkers load workers turns over
TellsWorkers asked workers turns over (Err program.Output) =
    (load : Load) × (asked ≡ Ok load) × HearsWorkers load workers turns over
TellsWorkers asked workers turns over (Err _) = Unit {0}
