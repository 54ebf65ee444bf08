-- What three texts ask for.
use Rattle.std.proofs.Common.{◌≡◌, ℕ, List, Ok, refl}
use Rattle.torus.specs.declared.step.Step.{Step}
use Rattle.script_lines.specs.Machine.{MachineSpec}
use Rattle.script.specs.Machine.{machine_of}
use Rattle.script_lines.specs.Lines.{ScriptsSpec}
use Rattle.script.specs.Scripts.{scripts_of}
use Rattle.script.specs.Steps.{steps_of}
use Rattle.one_order.specs.Load.{load_of}
use Rattle.machine_core.specs.Run.{asked_of}

-- all three are read
pub all_read : (a b c : List (List ℕ)) (m : MachineSpec) (s : ScriptsSpec) (list : List Step) → machine_of a ≡ Ok m → scripts_of m b ≡ Ok s
    → steps_of m c ≡ Ok list
    → asked_of a b c ≡ Ok (record { load = load_of m s; steps = list })
all_read a b c m s list read scripts steps = rw (read, scripts, steps) refl
