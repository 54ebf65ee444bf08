-- A machine and a watch in the memory of `Global`, and what a slot owns of one.
use Rattle.std.specs.Prelude.{Bool, true, false}
use Rattle.std.specs.Borrow.{Fml, RattleType, ftrue}
use Rattle.std.specs.Box.Ownership.{box_owns}
use Rattle.std.specs.Global.{Global}
use Rattle.std.specs.contracts.alloc.Global as global
use Rattle.std.specs.contracts.impls.GlobalAllocator.TheImpl.{ghosts}
use Rattle.machine_record.specs.contracts.recorded.RecordedMachine.{the_row as recorded_row}
use Rattle.c_handles.specs.contracts.kept.Kept.{the_row as kept_row}
use denote.RawPtr.{Ptr}

-- `RecordedMachine<Global>`, as the logic has the type
abbrev pub machine_row : RattleType
machine_row = recorded_row global.the_row ghosts

-- `Kept<Global>`, a watch, as the logic has the type
abbrev pub watch_row : RattleType
watch_row = kept_row global.the_row ghosts

-- the heap, of which there is one
abbrev pub heap : Global
heap = record { memory = record { seal = tt } }

-- a full slot owns the value of this type behind its pointer and the right to free its block, and
-- an empty one nothing
abbrev pub slot_owns : (T : RattleType) → Bool → Ptr → T.Denot → Fml
slot_owns T true at x = box_owns (ghosts.dealloc_token heap) T at x
slot_owns T false at x = ftrue
