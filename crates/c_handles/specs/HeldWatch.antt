-- What a handle holds, and what it and its slot end as once their watch is lent.
use Rattle.std.specs.Prelude.{true, Option, if◌then◌else◌, Some, None}
use Rattle.std.specs.Borrow.{Lends, LendsIf, MutBor, Fml}
use Rattle.std.specs.Global.{Global}
use Rattle.trace_watch.specs.declared.watch.Watch.{Watch}
use Rattle.c_handles.specs.Row.{watch_row}
use Rattle.c_handles.specs.declared.watch_slot.Slot.{Slot}
use Rattle.c_handles.specs.declared.watch_handle.WatchHandle.{WatchHandle}
use Rattle.c_handles.specs.contracts.watch_slot.Slot.{the_row as slot_row}
use Rattle.c_handles.specs.contracts.watch_handle.WatchHandle.{the_row as handle_row}

-- the watch that a handle holds
abbrev pub held : WatchHandle → Option (Watch Global)
held handle = if handle.slot.full then Some handle.slot.watch else None

-- the slot, full, with this watch
abbrev pub slot_with : Slot → Watch Global → Slot
slot_with slot w = record slot { full = true; watch = w }

-- the slot ends full, with what m leaves
abbrev pub LendsWatch : MutBor Slot → MutBor (Watch Global) → Fml
LendsWatch slot m = Lends slot_row watch_row slot m (slot_with slot.now)

-- the handle, holding this watch
abbrev pub holding : WatchHandle → Watch Global → WatchHandle
holding handle w = record handle { slot = slot_with handle.slot w }

-- where a watch is lent the handle ends with what m leaves, and else as it was
abbrev pub LendsHeldWatch : MutBor WatchHandle → Option (MutBor (Watch Global)) → Fml
LendsHeldWatch handle m = LendsIf handle_row watch_row handle m (holding handle.now) handle.now
