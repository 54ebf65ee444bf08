-- `get_mut` meets its contract: a walk of its MIR by hand, which opens the slot and lends on the watch behind its pointer.
use Rattle.c_handles.proofs.Steps.{◌≡◌, List, [], ◌∷◌, refl, sym, ap, ◌∙◌, proved, full_share, id⊢, ftrue, flft, named, Val, tables, ‵, raw, ◌⊛◌, at_ret}
use Rattle.c_handles.proofs.Steps.{some, later, ◌$◌, ◌∵◌, !, qed, done, move, keep, use1, split, join, fsplit, fsplit3, pick, await, rewrite, suffices}
use Rattle.c_handles.proofs.Steps.{frame, group, enter, of_opd, addr, load, stop, fld, first, blocks, exec, returns, alloc_all, pass_all, free_all}
use Rattle.c_handles.proofs.Steps.{look_at, get, through, sets, sets_last, env, whole, sub, look_in, shows, cell_at, fact, Ptr, lies_at, in_a_block}
use Rattle.c_handles.proofs.Steps.{MutRef, mut_vals, mut_Tells, plain, nothing, heard, opens, peeks, Stays, walk_of, says, stay_dropped, Goes-spent_ref}
use Rattle.c_handles.proofs.Steps.{ends_at, after, Bool, true}
use mir.Val.{vptr}
use base.Fml.{GName}
use denote.Follow.{follows, lends_Part}
use Rattle.c_handles.specs.contracts.watch_slot.Slot.get_mut as f
use Rattle.c_handles.proofs.watch_slot.Slot.get_mut.Statement.{statement}
use Rattle.c_handles.proofs.watch_slot.Slot.get_mut.Code as code
use Rattle.c_handles.specs.contracts.watch_slot.Slot.{the_row as R}
use Rattle.c_handles.proofs.watch_slot.Slot.TheLaws.{lowers}
use Rattle.c_handles.specs.Row.{watch_row as T}
use Rattle.c_handles.specs.HeldWatch.{slot_with}
use Rattle.c_handles.proofs.WatchParts.{Rest, whole_with}

abbrev stayed : Stays f.ended.signature.params f.ended.kept
stayed = (stay_dropped _ _, tt)

pub get_mut_spec : {M : Type 1} → statement M
get_mut_spec 𝓤 𝓛 𝓜 𝓡 wired =
    let c = f.clauses 𝓛 𝓜.mem 𝓡.returns in let W = walk_of 𝓛 f.ended stayed c in let 𝓣 = tables 𝓤 𝓛.H 𝓜 𝓡 𝓡.env in
    proved 𝓛 f.ended stayed c 𝓜 𝓡 (Goes-spent_ref 𝓛 1 (0 ∷ []) tt (plain (λ _. R)), tt)
    f.Key.name code.function (code.unfolded 𝓤 𝓛.H 𝓜 𝓡 wired)
    (λ κs. (mut_vals, tt)) (λ κs. (mut_Tells (named 0) κs.0 R, tt)) (λ κs qs bounds a _ are.
    let b = a.0.ref_ptr.0 in let o = a.0.ref_ptr.1 in let vs = mut_vals a.0 in
    let y : W.Ghost = ((κs, qs, bounds, a, (vs, tt)), tt) in
    qed 𝓛 (((‵ (flft κs.0 qs.0) ⊛ ‵ ftrue) ⊛ ‵ ((MutRef (named 0) κs.0 R).own_val a.0 vs) ⊛ ‵ ftrue) ∷ raw (fact 𝓤 (a.0.now.full ≡ true)) ∷ []) ∵
    move ! (1 ∷ []) $ heard ! _ (λ is_full. split ! $ split ! $ move ! (2 ∷ []) $ split ! $ keep ! (0 ∷ 2 ∷ []) $
    let s = record a.0.now { full = true } in
    rewrite ! 0 (λ (t : Bool). ‵ ((MutRef (named 0) κs.0 R).own_val (record a.0 { now = record a.0.now { full = t } }) vs)) is_full refl $
    enter ! _ _ _ _ _ $ alloc_all ! (λ l. pass_all ! refl ((tt, tt), tt) $
    fsplit3 ! $ move ! (1 ∷ 2 ∷ 3 ∷ []) $ opens ! tt R b o (λ us.
    move ! (1 ∷ []) $ peeks ! R _ (shows 𝓛 R) s us (λ is. fsplit ! $ move ! (1 ∷ []) $ fsplit ! $
    -- [the watch; the right to free its block; what the slot's fields own; the slot's cell; the open borrow, in three entries; ..]
    in_a_block ! s.at (λ p. lies_at T full_share p s.watch) (id⊢ 𝓤 _) (λ b' o' e.
    let word = lowers.val_is s us is ∙ ap (λ (p : Ptr). lowers.lowered (record s { at = p }) ∷ []) e in
    let Cell = λ (ws : List Val). ‵ (cell_at full_share R.mir ws b o) in
    rewrite ! 3 Cell word refl $
    first ! $ blocks ! $
    sets ! (of_opd ! (load ! (through ! refl (fld ! refl (stop !))) (look_in ! 3 (sub ! 1 refl (whole !))))) refl (tt, tt) $
    sets ! (of_opd ! (get ! refl)) refl (tt, tt) $
    sets_last ! (addr ! (through ! refl (stop !))) refl (tt, tt) $
    exec ! 𝓣.C 𝓣.Λ (env code.Mir.locals l) (after 1 (code.function).body) (at_ret _ (W.post y)) $
    sets ! (of_opd ! (get ! refl)) refl (tt, tt) $
    rewrite ! 3 Cell (sym word) refl $
    move ! (1 ∷ 2 ∷ 3 ∷ []) $ group ! 3 $ move ! (2 ∷ 3 ∷ 4 ∷ 1 ∷ 0 ∷ []) $ group ! 5 $
    use1 𝓛 (later (some (λ (γ : GName). ‵ ((MutRef (named 0) κs.0 T).own_val (record { ref_ptr = (b', o'); ghost_name = γ; now = s.watch }) (vptr b' o' ∷ [])) ⊛
    (‵ (flft κs.0 qs.0) ⊛ ‵ (follows R T a.0.ghost_name γ (slot_with s))))))
    (lends_Part 𝓛 R T (slot_with s) (named 0) κs.0 qs.0 b o b' o' a.0.ghost_name (Rest 𝓛 s us b o) (whole_with 𝓛 s us b o b' o' e) _ _ s.watch) $
    await ! tt $ pick ! (λ γ. split ! $ move ! (1 ∷ []) $ split ! $
    -- [the token; what follows the watch; the watch's `&mut`; ..]
    returns ! (look_at ! 0 refl) $ free_all ! refl $
    suffices ! _ (ends_at 𝓛 f.ended stayed c y (vptr b' o') (record { ref_ptr = (b', o'); ghost_name = γ; now = s.watch }) (tt, tt) (tt, tt)) $
    move ! (2 ∷ []) $ nothing ! $ nothing ! $ join ! $ nothing ! $ move ! (3 ∷ 0 ∷ []) $ join ! $ group ! 3 $ frame ! $ says ! refl $ keep ! (0 ∷ []) $ done
    !)))))))
