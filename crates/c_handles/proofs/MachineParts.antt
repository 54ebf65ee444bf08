-- What a full slot owns, in parts, and how the parts make it whole again with any machine. Assumes `Logic`.
use Rattle.std.specs.Prelude.{◌≡◌, ℕ, List, [], ◌∷◌, true}
use Rattle.c_handles.proofs.Steps.{refl, sym, full_share, Fml, fsep, Val, ‵, ◌$◌, ◌∵◌, !, qed, done, move, fjoin, rewrite, ent, Ptr, block_ptr, lies_at}
use Rattle.c_handles.proofs.Steps.{cell_at}
use seplogic.Ra.Ura.{Ura}
use mir.Raw.{raw}
use base.Logic.{SProp, sep, emp}
use types.Kit.{fpack}
use types.Logic.{Logic, sem}
use mir.Syntax.{Dict, impl, tcons, tnil, dcons, dnil}
use denote.Exit.{no}
use denote.Param.{arg, layout}
use denote.Param.Laws.{Laws, arg_laws}
use denote.RattleType.{RattleType}
use denote.Laws.{Is, Tells, Lawful}
use denote.Memory.{lone, mem, part_of, part_at}
use denote.Struct.Owning.{shape, to}
use denote.Struct.Struct.{Struct, Struct-Makes}
use denote.RawPtr.{ptr_val}
use mir.Val.{vbool}
use Rattle.c_handles.proofs.machine_slot.Slot.TheLaws.{lowers}
use Rattle.std.specs.contracts.impls.GlobalAllocator.TheImpl.{ghosts, dict}
use Rattle.std.specs.contracts.alloc.Global.{the_row as G}
use Rattle.std.proofs.alloc.Global.TheLaws.{the_row_laws as global_laws}
use Rattle.machine_record.proofs.recorded.RecordedMachine.TheLaws.{the_row_laws as laws_of}
use Rattle.c_handles.proofs.Boxes.{boxed, boxed_is_lawful, boxed_word, boxed_tells, Heap, no_drop}
use Rattle.machine_record.specs.Machine.{Recorded}
use Rattle.c_handles.specs.declared.machine_slot.Slot.{Slot}
use Rattle.c_handles.specs.contracts.machine_slot.Slot.{the_row as R, the_type}
use Rattle.c_handles.specs.Row.{machine_row as T, heap}
use Rattle.c_handles.specs.HeldMachine.{slot_with}

-- a machine, passed and in a box
abbrev pub Passed : RattleType
Passed = arg (raw (lone T.mir)) no T

abbrev pub passed_laws : Laws Passed
passed_laws = arg_laws (raw (lone T.mir)) no T (laws_of G ghosts global_laws) refl

abbrev pub B : RattleType
B = boxed T

pub box_lawful : {M : Type 1} {𝓤 : Ura M} (𝓛 : Logic 𝓤) → Lawful 𝓛 B
box_lawful 𝓛 = boxed_is_lawful T (laws_of G ghosts global_laws) 𝓛

abbrev pub box_word : B.Denot → List Val
box_word r = boxed_word T r

pub box_tells : Tells B (Is B) box_word
box_tells = boxed_tells T

-- the drop of a machine
abbrev pub drops : Dict
drops = impl ("c_handles::machine_record++recorded++RecordedMachine+Destruct::drop" ∷ []) (tcons (layout Heap) tnil) (dcons dict (dcons no_drop dnil))

-- what the fields own
abbrev pub Fields : Slot → List Val → Fml
Fields s us = (Struct (shape the_type)).own_val (to the_type s) us

-- the right to free the block at p
abbrev pub Frees : Ptr → Fml
Frees p = ghosts.dealloc_token heap (raw (lone T.mir)) p

-- the slot as it lies in memory
abbrev pub word : Slot → List Val
word s = lowers.lowered s ∷ []

module _ {M : Type 1} {𝓤 : Ura M} (𝓛 : Logic 𝓤) where
  -- the fields' part is plain, so it is had of any slot
  pub fields_made : (s : Slot) → ent 𝓤 (emp 𝓤) (sem 𝓛 (Fields s (word s)))
  fields_made s = Struct-Makes 𝓛 (shape the_type) ((λ _ _. tt), ((λ _ _. tt), tt)) (to the_type s) (word s)
      ((vbool s.full ∷ [], (ptr_val s.at ∷ [], tt)), (refl, (refl, (refl, tt))))

  -- what a full slot at (b, o) owns beside the machine
  abbrev pub Rest : Slot → List Val → ℕ → ℕ → SProp 𝓤
  Rest s us b o = sep 𝓤 (sem 𝓛 (Frees s.at)) (sep 𝓤 (sem 𝓛 (Fields (record s { full = true }) us)) (sem 𝓛 (cell_at full_share R.mir us b o)))

  pub whole_with : (s : Slot) (us : List Val) (b o b' o' : ℕ) → s.at ≡ block_ptr b' o' → (w : Recorded)
      → ent 𝓤 (sep 𝓤 (sem 𝓛 ((mem T).own_at w b' o')) (Rest s us b o)) (sem 𝓛 ((mem R).own_at (slot_with s w) b o))
  unfolding part_of
  whole_with s us b o b' o' e w =
      qed 𝓛 (‵ (part_at T full_share w b' o') ∷ ‵ (Frees s.at) ∷ ‵ (Fields (record s { full = true }) us) ∷ ‵ (cell_at full_share R.mir us b o) ∷ []) ∵
      rewrite ! 0 (λ (p : Ptr). ‵ (lies_at T full_share p w)) (sym e) refl $ fjoin ! $ move ! (1 ∷ 0 ∷ []) $ fjoin ! $ move ! (1 ∷ 0 ∷ []) $ fjoin ! $
      fpack ! (List Val) (λ ws. fsep (cell_at full_share R.mir ws b o) (R.own_val (slot_with s w) ws)) us $ done !
