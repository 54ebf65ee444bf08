-- Both texts are read.
use Rattle.std.proofs.Common.{◌≡◌, ℕ, List, Ok, refl}
use Rattle.script_lines.specs.Machine.{MachineSpec}
use Rattle.script.specs.Machine.{machine_of}
use Rattle.script_lines.specs.Lines.{ScriptsSpec}
use Rattle.script.specs.Scripts.{scripts_of}
use Rattle.machine_parts.specs.Load.{load_of}
use Rattle.machine_core.specs.Loading.{load_by}

-- what both texts ask for, where each is read
pub load_read : (a b : List (List ℕ)) (m : MachineSpec) (s : ScriptsSpec)
    → machine_of a ≡ Ok m → scripts_of m b ≡ Ok s → load_by a b ≡ Ok (load_of m s)
load_read a b m s read scripts = rw (read, scripts) refl
