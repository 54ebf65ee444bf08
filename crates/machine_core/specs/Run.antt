-- What three texts of a run ask for (this project's own format).
use Rattle.std.specs.Prelude.{ℕ, List, Result, Ok}
use Rattle.torus.specs.declared.step.Step.{Step}
use Rattle.lexer.specs.declared.fault.LineFault.{LineFault}
use Rattle.script.specs.Machine.{machine_of}
use Rattle.script.specs.Scripts.{scripts_of}
use Rattle.script.specs.Steps.{steps_of}
use Rattle.machine_parts.specs.Load.{Load, load_of}
use Rattle.machine_core.specs.Loading.{◌then◌}

-- a machine with its scripts, and the steps that it is to make
pub record AskedRun : Type 0 where
  pub load : Load
  pub steps : List Step

-- what three texts ask for, or the first fault; they are taken in this order
abbrev pub asked_of : List (List ℕ) → List (List ℕ) → List (List ℕ) → Result AskedRun LineFault
asked_of machine scripts steps =
    machine_of machine then λ m. scripts_of m scripts then λ s. steps_of m steps then λ list.
    Ok (record { load = load_of m s; steps = list })
