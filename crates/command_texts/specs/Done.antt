-- What the commands on routes, channels and reports print and refuse (this project's own format).
use Rattle.std.specs.Prelude.{◌≡◌, ℕ, ◌≤◌, ◌<◌, List, Result, Ok, Err, ◌⊎◌, codes}
use Rattle.torus.specs.Shape.{tiles_of}
use Rattle.torus.specs.declared.shape.Class.{Class}
use Rattle.script_lines.specs.Machine.{MachineSpec}
use Rattle.script.specs.Machine.{machine_of}
use Rattle.channel_number.specs.Number.{IsNumbering}
use Rattle.report_check.specs.Good.{FirstBad, GoodReport}
use Rattle.program_fault.specs.Done.{Output, Does}
use Rattle.program_fault.specs.declared.fault.ProgramFault.{ProgramFault}
use Rattle.program_fault.specs.declared.fault.ProgramFault.TheVariants as program
use Rattle.command_texts.specs.Lines.{route_lines, channels_lines}

-- a text is the route's, in the machine that the lines of a text give
pub record IsRouteText (lines : List (List ℕ)) (src dst : ℕ) (class : Class) (text : List ℕ) : Type
    0 where
  pub machine : MachineSpec
  pub read : machine_of lines ≡ Ok machine
  pub from : src < tiles_of machine.shape
  pub to : dst < tiles_of machine.shape
  pub is : text ≡ route_lines machine.shape src dst class

-- a tile is not there, in the machine that the lines of a text give
pub record IsOffTorus (lines : List (List ℕ)) (src dst : ℕ) : Type 0 where
  pub machine : MachineSpec
  pub read : machine_of lines ≡ Ok machine
  pub off : (tiles_of machine.shape ≤ src) ⊎ (tiles_of machine.shape ≤ dst)

-- the machine text has this as its first fault, or a tile is not there
abbrev pub IsRouteFault : List (List ℕ) → ℕ → ℕ → ProgramFault → Type 0
IsRouteFault lines src dst (program.Line found) = machine_of lines ≡ Err found
IsRouteFault lines src dst program.Tile = IsOffTorus lines src dst
IsRouteFault lines src dst _ = ⊥

-- the route was printed
abbrev pub PrintsRoute : {A : Type 0} → List (List ℕ) → ℕ → ℕ → Class → Output → Output
    → Result A ProgramFault → Type 0
PrintsRoute lines src dst class =
    Does (λ done text. IsRouteText lines src dst class text) (IsRouteFault lines src dst)

-- a text is that of the channels, in the machine that the lines of a text give
pub record IsChannelsText (lines : List (List ℕ)) (text : List ℕ) : Type 0 where
  pub machine : MachineSpec
  pub read : machine_of lines ≡ Ok machine
  pub numbers : List ℕ
  pub numbering : IsNumbering machine.shape numbers
  pub is : text ≡ channels_lines machine.shape numbers

-- the machine text has this as its first fault
abbrev pub IsMachineFault : List (List ℕ) → ProgramFault → Type 0
IsMachineFault lines (program.Line found) = machine_of lines ≡ Err found
IsMachineFault lines _ = ⊥

-- the channels were printed
abbrev pub PrintsChannels : {A : Type 0} → List (List ℕ) → Output → Output → Result A ProgramFault
    → Type 0
PrintsChannels lines = Does (λ done text. IsChannelsText lines text) (IsMachineFault lines)

-- a report is good, and a text says so
pub record IsGoodVerdict (report text : List ℕ) : Type 0 where
  pub good : GoodReport report
  pub is : text ≡ codes "good report\n"

-- a report has this as its first bad line
abbrev pub IsReportFault : List ℕ → ProgramFault → Type 0
IsReportFault report (program.Bad line) = FirstBad report line
IsReportFault report _ = ⊥

-- the verdict on a report was printed
abbrev pub PrintsVerdict : {A : Type 0} → List ℕ → Output → Output → Result A ProgramFault → Type 0
PrintsVerdict report = Does (λ done text. IsGoodVerdict report text) (IsReportFault report)
