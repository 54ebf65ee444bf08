-- A slot may go to another thread: the machine behind its pointer may, and so may the right to free its block.
use Rattle.std.specs.Prelude.{Bool, true, false}
use mir.Raw.{raw}
use base.Fml.{ftrue}
use base.Fraction.{full_share}
use base.Shift.{Keyless}
use denote.Exit.{Exit, unchanged, leaves, hidden, under}
use denote.Builtin.{RawPtr}
use denote.Memory.{lone}
use denote.Param.Send.{IsSend, AllSend, Quiet, owning_send, struct_send, part_keyless, sendable}
use denote.RattleType.{RattleType}
use denote.RawPtr.{Ptr, block_ptr, null_ptr, lies_at}
use denote.Struct.Owning.{shape, fields, to}
use denote.Struct.Struct.{exits_of}
use Rattle.std.proofs.Crossing.{frees, crosses}
use Rattle.machine_record.specs.Machine.{Recorded}
use Rattle.std.specs.contracts.alloc.Global as global
use Rattle.std.specs.contracts.impls.GlobalAllocator.TheImpl.{ghosts}
use Rattle.std.proofs.alloc.Global.TheSendSync as heap_crosses
use Rattle.machine_record.proofs.recorded.RecordedMachine.TheSendSync as recorded
use Rattle.c_handles.specs.Row.{machine_row, heap, slot_owns}
use Rattle.c_handles.specs.contracts.machine_slot.Slot as Slot

quiet : {D X : Type 0} (f : D → X) (e : Exit X) → Quiet e → Quiet (hidden (under f e))
quiet f unchanged q = λ x w. tt
quiet f (leaves L l S s r₀) q = λ d. q (f d)

lies : (R : RattleType) → IsSend R → (p : Ptr) (x : R.Denot) → Keyless (lies_at R full_share p x)
lies R s (block_ptr b o) x = part_keyless R s full_share x b o
lies R s null_ptr x = tt

global_send : IsSend global.the_row
global_send = heap_crosses.the_send

machine_send : IsSend machine_row
machine_send = recorded.the_send global.the_row ghosts global_send frees

all : AllSend (fields Slot.the_type)
all = (search sendable, (search sendable, tt))

owned : (full : Bool) (at : Ptr) (m : Recorded) → Keyless (slot_owns machine_row full at m)
owned true at m = (lies machine_row machine_send at m, frees.frees heap (raw (lone machine_row.mir)) at)
owned false at m = tt

pub send : IsSend Slot.the_row
send = owning_send Slot.the_type all (λ s. owned s.full s.at s.core)
    (λ k. quiet (to Slot.the_type) (exits_of k (fields Slot.the_type)) ((struct_send (shape Slot.the_type) all).leaving k))
