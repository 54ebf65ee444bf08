-- What a handle holds, and what it and its slot end as once their machine is lent.
use Rattle.std.specs.Prelude.{true, Option, if◌then◌else◌, Some, None}
use Rattle.std.specs.Borrow.{Lends, LendsIf, MutBor, Fml}
use Rattle.machine_asked.specs.Asked.{Asked}
use Rattle.machine_record.specs.Machine.{Recorded}
use Rattle.c_handles.specs.Row.{machine_row}
use Rattle.c_handles.specs.declared.machine_slot.Slot.{Slot}
use Rattle.c_handles.specs.declared.machine_handle.MachineHandle.{MachineHandle}
use Rattle.c_handles.specs.contracts.machine_slot.Slot.{the_row as slot_row}
use Rattle.c_handles.specs.contracts.machine_handle.MachineHandle.{the_row as handle_row}

-- the machine that a handle holds, with its record, where it keeps one
abbrev pub held_whole : MachineHandle → Option Recorded
held_whole handle = if handle.slot.full then Some handle.slot.core else None

-- the machine that a handle holds, without its record
abbrev pub held : MachineHandle → Option Asked
held handle = if handle.slot.full then Some handle.slot.core.asked else None

-- the slot, full, with this machine
abbrev pub slot_with : Slot → Recorded → Slot
slot_with slot core = record slot { full = true; core = core }

-- the slot ends full, with what m leaves
abbrev pub LendsMachine : MutBor Slot → MutBor Recorded → Fml
LendsMachine slot m = Lends slot_row machine_row slot m (slot_with slot.now)

-- the handle, holding this machine
abbrev pub holding : MachineHandle → Recorded → MachineHandle
holding handle core = record handle { slot = slot_with handle.slot core }

-- where a machine is lent the handle ends with what m leaves, and else as it was
abbrev pub LendsHeld : MutBor MachineHandle → Option (MutBor Recorded) → Fml
LendsHeld handle m = LendsIf handle_row machine_row handle m (holding handle.now) handle.now
