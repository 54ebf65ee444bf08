-- What a call of a function of `Box` is given for a box of a value in the memory of `Global`.
use Rattle.std.specs.Prelude.{List, [], ◌∷◌}
use Rattle.c_handles.proofs.Steps.{refl}
use mir.Raw.{raw}
use mir.Syntax.{Dict, impl, tnil, tcons, dnil}
use denote.Exit.{no}
use denote.Memory.{lone}
use denote.Param.{arg, layout}
use denote.Param.Laws.{Laws, arg_laws}
use denote.RattleType.{RattleType}
use denote.Laws.{Is, Tells, Lawful}
use denote.RawPtr.{ptr_val}
use denote.Struct.Field.{row_field}
use denote.Struct.Laws.{FLaws, RawPtr-laws}
use denote.Struct.OwningLaws.{Tells-lowered}
use mir.Val.{Val, vstruct, vcons, vnil}
use types.Logic.{Logic}
use seplogic.Ra.Ura.{Ura}
use Rattle.std.specs.contracts.boxed.Box.{the_row as box_row, the_type as box_type}
use Rattle.std.proofs.boxed.Box.TheLaws.{the_field_loose}
use Rattle.std.specs.contracts.alloc.Global.{the_row as G}
use Rattle.std.proofs.alloc.Global.TheLaws.{the_row_laws as global_laws, lowers as global_lowers}
use Rattle.std.specs.contracts.impls.GlobalAllocator.TheImpl.{ghosts}

abbrev pub Heap : RattleType
Heap = arg (raw (lone G.mir)) no G

abbrev pub heap_laws : Laws Heap
heap_laws = arg_laws (raw (lone G.mir)) no G global_laws refl

-- the heap's handle needs no drop
abbrev pub no_drop : Dict
no_drop = impl ("c_handles::Destruct++none::drop" ∷ []) (tcons (layout Heap) tnil) dnil

-- a box of a value of a type
abbrev pub boxed : RattleType → RattleType
boxed T = box_row T G ghosts

pub boxed_is_lawful : (T : RattleType) → Laws T → {M : Type 1} {𝓤 : Ura M} (𝓛 : Logic 𝓤) → Lawful 𝓛 (boxed T)
boxed_is_lawful T laws 𝓛 = (the_field_loose T G ghosts laws global_laws).lawful 𝓛

heap_field : FLaws (row_field G)
heap_field = record {
  val = global_lowers.lowered;
  tells = global_lowers.val_is;
  low = global_lowers.lowered;
  low-is = global_lowers.val_is;
  lawful = global_laws.lawful;
  drops = global_laws.drops;
}

-- the box as it lies in a local
abbrev pub boxed_word : (T : RattleType) → (boxed T).Denot → List Val
boxed_word T r = vstruct (vcons (ptr_val r.ptr) (vcons (global_lowers.lowered r.alloc) vnil)) ∷ []

pub boxed_tells : (T : RattleType) → Tells (boxed T) (Is (boxed T)) (boxed_word T)
unfolding heap_field
boxed_tells T = Tells-lowered (box_type T G ghosts) (RawPtr-laws, (heap_field, tt))
