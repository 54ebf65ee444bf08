-- How a `MachineText` keeps its machine.
use Rattle.script.specs.declared.machine.MachineText.TheInside.{Inside}
use Rattle.script_lines.specs.Machine.{MachineSpec, IsAcceptedMachine}

abbrev pub machine_of_fields : {A : Type 0} → Inside A → MachineSpec
machine_of_fields m = record {
  shape = m.torus;
  depth = m.depth;
  tags = m.tags;
  opening = m.opening.items;
}

abbrev pub IsMachineText : {A : Type 0} → Inside A → Type 0
IsMachineText m = IsAcceptedMachine (machine_of_fields m)
