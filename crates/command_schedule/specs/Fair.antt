-- What the schedule of fair rounds came to, and the attempts that are kept of a round (this project's own
-- format).
use Rattle.std.specs.Prelude.{◌≡◌, ℕ, Bool, false, Result, Ok, Err, List, ◌++◌, length, take, if◌then◌else◌}
use Rattle.torus.specs.declared.step.Step.{Step}
use Rattle.core_laws.specs.Machine.{Core}
use Rattle.machine_core.specs.Guarded.{begins_operation}
use Rattle.command_schedule.specs.declared.fair.FairEnd.{FairEnd}
use Rattle.command_schedule.specs.Drawn.{enabled_now}
use Rattle.program_fault.specs.declared.fault.ProgramFault.{ProgramFault}

-- whether every script is finished, where there is no fault
abbrev pub fair_finished : Result FairEnd ProgramFault → Result Bool ProgramFault
fair_finished (Ok end) = Ok end.finished
fair_finished (Err fault) = Err fault

-- behind so many steps of a list, those of some attempts are kept that are enabled in a machine now
pub record KeepsEnabled (c : Core) (attempts : List Step) (old : List Step) (before : ℕ)
    (new : List Step) (count : ℕ) : Type 0 where
  pub kept : take count new ≡ take before old ++ enabled_now c attempts
  pub room : length new ≡ length old

-- whether a machine holds an attempt back, where it begins an operation and these are held back
abbrev pub is_held_back : Bool → Core → Step → Bool
is_held_back held c a = if held then begins_operation c.state a else false
