-- `put` meets its contract: a walk of its MIR by hand, which gives the slot what `Box::into_raw` gives.
use Rattle.c_handles.proofs.Steps.{◌≡◌, List, [], ◌∷◌, refl, ap, proved, full_share, id⊢, ftrue, use0, yes, flft, named, Val, tables, ‵, raw, ◌⊛◌, some}
use Rattle.c_handles.proofs.Steps.{later, ◌$◌, ◌∵◌, !, qed, by, move, keep, drop, use1, feq_i, feq_l, only, unit_lit, true_lit, vunit, lands_as, split}
use Rattle.c_handles.proofs.Steps.{join, fsplit, fsplit3, fjoin, pick, await, rewrite, suffices, frame, group, enter, of_opd, stop, fld, no_more}
use Rattle.c_handles.proofs.Steps.{and_then, assigns, returns, alloc_all, pass_all, free_all, look_at, get, through, sets, whole, sub, shows, cell_at}
use Rattle.c_handles.proofs.Steps.{fact, fact_i, Ptr, RawPtr, rawptr_Lawful, MutRef, mut_vals, mut_Tells, plain, nothing, heard, opens, closes, peeks}
use Rattle.c_handles.proofs.Steps.{calls_at, lasts, triple_of, framed, Stays, walk_of, says, stay_ref, stay_dropped, Goes-ref, Goes-dropped, ends_at}
use Rattle.c_handles.proofs.Steps.{Bool, true, false}
use types.Tokens.{lft_new}
use types.Part.{store_in}
use contract.BorrowLft.{◌⊑◌, ⊑_static}
use denote.Param.NoDrop.{glues}
use Rattle.std.specs.contracts.impls.GlobalAllocator.TheImpl.{ghosts, dict}
use Rattle.std.proofs.impls.GlobalAllocator.TheImpl.Met.{passed}
use Rattle.std.specs.contracts.boxed.Box.into_raw as g
use Rattle.std.proofs.boxed.Box.into_raw.Met.{met}
use mir.Syntax.{method, no_args, dcons, dnil, a_type}
use denote.Param.{bounded}
use denote.Param.Glue as glue
use denote.Triple.Table.{widened}
use Rattle.std.specs.Box.Ownership.{box_owns}
use Rattle.c_handles.specs.declared.machine_slot.Slot.{Slot}
use Rattle.c_handles.proofs.machine_record++recorded++RecordedMachine+Destruct.drop.Met as drop
use Rattle.c_handles.proofs.machine_record++recorded++RecordedMachine+Destruct.drop.Symbol.{name as drop_name, as_method}
use Rattle.c_handles.proofs.Destruct++none.drop.Code as no_drop_code
use Rattle.c_handles.specs.contracts.machine_slot.Slot.put as f
use Rattle.c_handles.proofs.machine_slot.Slot.put.Statement.{statement}
use Rattle.c_handles.proofs.machine_slot.Slot.put.Code as code
use Rattle.c_handles.specs.contracts.machine_slot.Slot.{the_row as R}
use Rattle.c_handles.proofs.machine_slot.Slot.TheLaws.{lowers}
use Rattle.c_handles.specs.Row.{machine_row as T}
use denote.Triple.Clauses.{Ended, Lasts}
use Rattle.c_handles.proofs.MachineParts.{Fields, word, fields_made, B, box_lawful, box_word, box_tells, drops, Passed, passed_laws}
use Rattle.c_handles.proofs.Boxes.{Heap, heap_laws, no_drop}

abbrev stayed : Stays f.ended.signature.params f.ended.kept
stayed = (stay_ref (0 ∷ []) tt (plain (λ _. R)), (stay_dropped _ _, tt))

abbrev ended : Ended
ended = g.ended Passed Heap ghosts dict no_drop drops

pub put_spec : {M : Type 1} → statement M
unfolding no_drop_code.code
put_spec {M} 𝓤 𝓛 𝓜 𝓡 wired =
    let c = f.clauses 𝓛 𝓜.mem 𝓡.returns in let W = walk_of 𝓛 f.ended stayed c in let 𝓣 = tables 𝓤 𝓛.H 𝓜 𝓡 𝓡.env in
    let heap_met = passed 𝓡.env (code.calls-std_heap::GlobalAllocator::allocate 𝓡.env wired) (code.calls-std_heap::GlobalAllocator::deallocate 𝓡.env wired)
    (code.calls-std_heap::GlobalAllocator::grow 𝓡.env wired) (code.calls-std_heap::GlobalAllocator::shrink 𝓡.env wired) M 𝓤 𝓛 𝓜 𝓡 in
    let heap_glue = glues "c_handles::Destruct++none::drop" 𝓡.env (code.calls-c_handles::Destruct++none::drop 𝓡.env wired) Heap heap_laws M 𝓤 𝓛 𝓜 𝓡 in
    let dropping = code.calls-c_handles::machine_record++recorded++RecordedMachine+Destruct::drop 𝓡.env wired in
    let glued : glue.Met 𝓛 𝓜 𝓡 𝓡.env Passed drops =
    widened 𝓤 𝓛.H (triple_of 𝓛 (glue.signature Passed) (glue.spent 𝓛 Passed)) 𝓜 𝓡 𝓡.env
    (𝓡.env (drop_name (bounded (a_type ∷ []) (Heap, tt) (dcons dict (dcons no_drop dnil))))) (𝓡.env (method drops 0 no_args))
    (as_method 𝓡.env dropping (method drops 0 no_args) refl)
    (drop.met 𝓤 𝓛 𝓜 𝓡 dropping Heap heap_laws ghosts dict no_drop heap_met heap_glue) in
    let known = met 𝓤 𝓛 𝓜 𝓡 (code.calls-std_alloc::boxed::Box::into_raw 𝓡.env wired) Passed Heap passed_laws heap_laws ghosts dict no_drop drops heap_met
    heap_glue glued in
    let S = triple_of 𝓛 (g.signature Passed Heap ghosts dict no_drop drops) (g.spec Passed Heap ghosts dict no_drop drops 𝓛 𝓜.mem 𝓡.returns) in
    proved 𝓛 f.ended stayed c 𝓜 𝓡 (Goes-ref 𝓛 1 0 tt (plain (λ _. R)), (Goes-dropped 𝓛 1 (plain (λ _. B)) yes (λ κs x w. refl), tt))
    f.Key.name code.function (code.unfolded 𝓤 𝓛.H 𝓜 𝓡 wired)
    (λ κs. (mut_vals, (box_word, tt))) (λ κs. (mut_Tells (named 0) κs.0 R, (box_tells, tt))) (λ κs qs bounds a _ are.
    let b = a.0.ref_ptr.0 in let o = a.0.ref_ptr.1 in let vs = mut_vals a.0 in let r = a.1.0 in
    let y : W.Ghost = ((κs, qs, bounds, a, (vs, (box_word r, tt))), tt) in
    qed 𝓛 (((‵ (flft κs.0 qs.0) ⊛ ‵ ftrue) ⊛ (‵ ((MutRef (named 0) κs.0 R).own_val a.0 vs) ⊛ (‵ (B.own_val r (box_word r)) ⊛ ‵ ftrue)))
    ∷ raw (fact 𝓤 (a.0.now.full ≡ false)) ∷ []) ∵
    move ! (1 ∷ []) $ heard ! _ (λ is_empty. split ! $ split ! $ move ! (2 ∷ []) $ split ! $ move ! (1 ∷ []) $ split ! $ keep ! (2 ∷ 3 ∷ 0 ∷ []) $
    let s = record a.0.now { full = false } in
    rewrite ! 0 (λ (t : Bool). ‵ ((MutRef (named 0) κs.0 R).own_val (record a.0 { now = record a.0.now { full = t } }) vs)) is_empty refl $
    let box_fits = ((box_lawful 𝓛).typed r (box_word r) are.1.0).0 in
    enter ! _ _ _ _ _ $ alloc_all ! (λ l. pass_all ! refl ((tt, tt), (box_fits, tt)) $
    sets ! (of_opd ! (get ! refl)) refl box_fits $
    -- [self; the token; the box; ..]
    lft_new ! tt (λ α. lft_new ! tt (λ β.
    let z : S.Ghost = (((α ∷ [], (β ∷ [], tt)), (full_share, (full_share, tt)), tt, (r, tt), (box_word r, tt)), tt) in
    nothing ! $ use0 𝓛 (raw (fact 𝓤 ((β ∷ []) ⊑ Heap.lives))) (fact_i 𝓤 _ _ (⊑_static (β ∷ []))) $ join ! $
    use0 𝓛 (raw (fact 𝓤 ((α ∷ []) ⊑ Passed.lives))) (fact_i 𝓤 _ _ (⊑_static (α ∷ []))) $ join ! $
    -- [requires; β; α; self; the token; the box; ..]
    nothing ! $ move ! (6 ∷ 0 ∷ []) $ join ! $ nothing ! $ move ! (3 ∷ 0 ∷ []) $ join ! $ move ! (3 ∷ 0 ∷ []) $ join ! $ join ! $ join ! $
    use1 𝓛 (raw (S.pre z)) (id⊢ 𝓤 _) $
    calls_at ! (framed 𝓤 𝓛.H 𝓜 𝓣) S known z (and_then ! (get ! refl) (no_more !)) (λ v.
    use1 𝓛 (later (some (λ (p : Ptr). ((‵ (flft (α ∷ []) full_share) ⊛ (‵ (flft (β ∷ []) full_share) ⊛ ‵ ftrue)) ⊛ ‵ (RawPtr.own_val p (v ∷ []))) ⊛
    some (λ (ws : Lasts ended z.0.0 z.0.3). ‵ (lasts ended z.0.0 z.0.3 ws) ⊛ ‵ (box_owns (ghosts.dealloc_token r.alloc) T p r.value))))) (id⊢ 𝓤 _) $
    await ! tt $ pick ! (λ p. split ! $ move ! (1 ∷ []) $ pick ! (λ ws. split ! $ drop ! $ move ! (1 ∷ []) $ split ! $ drop ! $ feq_l ! (λ is_ptr.
    let ptr_fits = ((rawptr_Lawful 𝓛).typed p _ refl).0 in
    lands_as ! (ap only is_ptr) refl ptr_fits $
    sets ! (of_opd ! (get ! refl)) refl ptr_fits $
    -- [what the box owned; self; the token; ..]
    move ! (1 ∷ []) $ fsplit3 ! $ move ! (1 ∷ 2 ∷ 4 ∷ []) $ opens ! tt R b o (λ us.
    move ! (1 ∷ []) $ peeks ! R _ (shows 𝓛 R) s us (λ is. fsplit ! $
    -- [fields; nothing; cell; the open borrow, in three entries; self's first part; what the box owned; ..]
    rewrite ! 2 (λ (ws' : List Val). ‵ (cell_at full_share R.mir ws' b o)) (lowers.val_is s us is) refl $
    assigns ! (of_opd ! (get ! refl)) (through ! refl (fld ! refl (stop !))) (store_in ! 2 (sub ! 1 refl (whole !)) ptr_fits) $
    assigns ! (of_opd ! (true_lit !)) (through ! refl (fld ! refl (stop !))) (store_in ! 2 (sub ! 0 refl (whole !)) (tt, tt)) $
    sets ! (of_opd ! (unit_lit !)) refl (tt, tt) $
    let filled : Slot = record s { full = true; at = p; core = r.value } in
    move ! (7 ∷ []) $ use0 𝓛 (‵ (Fields filled (word filled))) (fields_made 𝓛 filled) $ fjoin ! $ move ! (3 ∷ 0 ∷ 4 ∷ 5 ∷ 6 ∷ []) $
    closes ! tt R filled (word filled) b o $
    -- [two parts of self; the token; fields; nothing; self's first part]
    returns ! (look_at ! 0 refl) $ free_all ! refl $
    suffices ! _ (ends_at 𝓛 f.ended stayed c y vunit tt (filled, (tt, tt)) (tt, (tt, tt))) $
    move ! (5 ∷ []) $ group ! 3 $ feq_i ! _ (vunit ∷ []) _ refl $ nothing ! $ nothing ! $ join ! $ move ! (2 ∷ 0 ∷ []) $ join ! $
    nothing ! $ move ! (3 ∷ 0 ∷ []) $ join ! $ group ! 3 $ frame ! $ says ! refl $ by ! (fact_i 𝓤 _ _ refl))))))))))))
