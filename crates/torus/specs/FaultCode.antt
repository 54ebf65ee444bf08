-- The codes of faults.
use Rattle.std.specs.Prelude.{ℕ, List, codes}
use Rattle.torus.specs.declared.fault.Fault.{Fault}
use Rattle.torus.specs.declared.fault.Fault.TheVariants as fault

-- the code that a fault prints as, its bytes (this project's own format)
abbrev pub fault_code : Fault → List ℕ
fault_code fault.Radix = codes "F1"
fault_code fault.Dimensions = codes "F2"
fault_code fault.Tiles = codes "F3"
fault_code fault.Line = codes "F4"
fault_code fault.Setting = codes "F5"
fault_code fault.Range = codes "F6"
fault_code fault.Address = codes "F7"
fault_code fault.Processor = codes "F8"
fault_code fault.Length = codes "F9"
fault_code fault.Last = codes "F10"
fault_code fault.Step = codes "F11"
fault_code fault.Memory = codes "F12"
fault_code fault.Count = codes "F13"
fault_code fault.Dateline = codes "F14"
