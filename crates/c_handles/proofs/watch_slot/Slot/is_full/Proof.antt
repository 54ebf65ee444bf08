-- `is_full` meets its contract: a walk of its MIR by hand, which opens the slot, reads one field of it and shuts it was.
use Rattle.c_handles.proofs.Steps.{List, [], ◌∷◌, refl, sym, proved, full_share, ftrue, flft, named, Val, ‵, ◌⊛◌, ◌$◌, ◌∵◌, !, qed, move, keep, split}
use Rattle.c_handles.proofs.Steps.{join, fsplit3, rewrite, suffices, frame, group, enter, of_opd, load, stop, fld, returns, alloc_all, pass_all}
use Rattle.c_handles.proofs.Steps.{free_all, look_at, through, sets, whole, sub, look_in, bool, shows, bool_Makes, cell_at, MutRef, mut_vals, mut_Tells}
use Rattle.c_handles.proofs.Steps.{plain, nothing, owned, opens, closes, peeks, Stays, walk_of, says, stay_ref, Goes-ref, ends_at}
use mir.Val.{vbool}
use types.Kit.{by}
use contract.Monad.{fact_i}
use Rattle.c_handles.specs.contracts.watch_slot.Slot.is_full as f
use Rattle.c_handles.proofs.watch_slot.Slot.is_full.Statement.{statement}
use Rattle.c_handles.proofs.watch_slot.Slot.is_full.Code as code
use Rattle.c_handles.specs.contracts.watch_slot.Slot.{the_row as R}
use Rattle.c_handles.proofs.watch_slot.Slot.TheLaws.{lowers}

abbrev stayed : Stays f.ended.signature.params f.ended.kept
stayed = (stay_ref (0 ∷ []) tt (plain (λ _. R)), tt)

pub is_full_spec : {M : Type 1} → statement M
is_full_spec 𝓤 𝓛 𝓜 𝓡 wired =
    let c = f.clauses 𝓛 𝓜.mem 𝓡.returns in let W = walk_of 𝓛 f.ended stayed c in
    proved 𝓛 f.ended stayed c 𝓜 𝓡 (Goes-ref 𝓛 1 0 tt (plain (λ _. R)), tt)
    f.Key.name code.function (code.unfolded 𝓤 𝓛.H 𝓜 𝓡 wired)
    (λ κs. (mut_vals, tt)) (λ κs. (mut_Tells (named 0) κs.0 R, tt)) (λ κs qs bounds a _ are.
    let b = a.0.ref_ptr.0 in let o = a.0.ref_ptr.1 in let s = a.0.now in let vs = mut_vals a.0 in
    let y : W.Ghost = ((κs, qs, bounds, a, (vs, tt)), tt) in
    qed 𝓛 (((‵ (flft κs.0 qs.0) ⊛ ‵ ftrue) ⊛ ‵ ((MutRef (named 0) κs.0 R).own_val a.0 vs) ⊛ ‵ ftrue) ∷ ‵ ftrue ∷ []) ∵
    split ! $ split ! $ move ! (2 ∷ []) $ split ! $ keep ! (0 ∷ 2 ∷ []) $
    enter ! _ _ _ _ _ $ alloc_all ! (λ l. pass_all ! refl ((tt, tt), tt) $
    fsplit3 ! $ move ! (1 ∷ 2 ∷ 3 ∷ []) $ opens ! tt R b o (λ us.
    move ! (1 ∷ []) $ peeks ! R _ (shows 𝓛 R) s us (λ is. move ! (1 ∷ 0 ∷ []) $
    let Cell = λ (ws : List Val). ‵ (cell_at full_share R.mir ws b o) in
    rewrite ! 0 Cell (lowers.val_is s us is) refl $
    -- [the slot's cell; what it owns; the open borrow, in three entries; the locals]
    sets ! (of_opd ! (load ! (through ! refl (fld ! refl (stop !))) (look_in ! 0 (sub ! 0 refl (whole !))))) refl (tt, tt) $
    rewrite ! 0 Cell (sym (lowers.val_is s us is)) refl $ closes ! tt R s us b o $
    -- [two parts of self; the token; self's first part]
    returns ! (look_at ! 0 refl) $ free_all ! refl $ move ! (3 ∷ []) $
    suffices ! _ (ends_at 𝓛 f.ended stayed c y (vbool s.full) s.full (s, tt) (tt, tt)) $
    group ! 3 $ owned ! bool _ (bool_Makes 𝓛) s.full _ refl $ nothing ! $ move ! (2 ∷ 0 ∷ []) $ join ! $
    nothing ! $ move ! (3 ∷ 0 ∷ []) $ join ! $ group ! 3 $ frame ! $ says ! refl $ by ! (fact_i 𝓤 _ _ refl)))))
