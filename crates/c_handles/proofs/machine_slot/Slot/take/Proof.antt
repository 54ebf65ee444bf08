-- `take` meets its contract: a walk of its MIR by hand, which hands what the slot owns to `Box::from_raw`.
use Rattle.c_handles.proofs.Steps.{◌≡◌, List, [], ◌∷◌, refl, proved, full_share, id⊢, ftrue, use0, owned, rawptr_Makes, yes, flft, named, Val, tables, ‵}
use Rattle.c_handles.proofs.Steps.{raw, ◌⊛◌, at_ret, some, later, ◌$◌, ◌∵◌, !, qed, by, move, keep, drop, use1, split, join, fsplit, fsplit3, fjoin}
use Rattle.c_handles.proofs.Steps.{pick, await, rewrite, suffices, frame, group, enter, of_opd, load, stop, fld, first, blocks, exec, no_more, and_then}
use Rattle.c_handles.proofs.Steps.{assigns, returns, alloc_all, pass_all, free_all, look_at, get, through, sets, env, whole, sub, look_in, shows}
use Rattle.c_handles.proofs.Steps.{cell_at, fact, fact_i, RawPtr, rawptr_vals, rawptr_Lawful, MutRef, mut_vals, mut_Tells, plain, nothing, heard, opens}
use Rattle.c_handles.proofs.Steps.{closes, peeks, lasts, triple_of, framed, Stays, walk_of, says, stay_ref, stay_dropped, Goes-ref, Goes-dropped}
use Rattle.c_handles.proofs.Steps.{ends_at, after, Bool, true, false}
use types.Tokens.{lft_new}
use types.Part.{store_in}
use types.Run.{false_lit}
use types.ByLocal.{lands_last}
use denote.Triple.Call.{calls_at_last}
use contract.BorrowLft.{◌⊑◌, ⊑_static}
use denote.Param.NoDrop.{glues}
use Rattle.std.specs.contracts.alloc.Global.{the_row as G}
use Rattle.std.proofs.alloc.Global.TheLaws.{lowers as global_lowers}
use Rattle.std.specs.contracts.impls.GlobalAllocator.TheImpl.{ghosts, dict}
use Rattle.std.proofs.impls.GlobalAllocator.TheImpl.Met.{passed}
use Rattle.std.specs.contracts.boxed.Box.from_raw as g
use Rattle.std.proofs.boxed.Box.from_raw.Met.{met}
use Rattle.c_handles.proofs.Destruct++none.drop.Code as no_drop_code
use Rattle.c_handles.specs.contracts.machine_slot.Slot.take as f
use Rattle.c_handles.proofs.machine_slot.Slot.take.Statement.{statement}
use Rattle.c_handles.proofs.machine_slot.Slot.take.Code as code
use Rattle.c_handles.specs.contracts.machine_slot.Slot.{the_row as R}
use Rattle.c_handles.proofs.machine_slot.Slot.TheLaws.{lowers}
use Rattle.std.specs.Box.{box_allocator}
use denote.Triple.Clauses.{Ended, Lasts}
use Rattle.c_handles.proofs.MachineParts.{Fields, word, fields_made, B, box_lawful, Passed, passed_laws}
use Rattle.c_handles.proofs.Boxes.{Heap, heap_laws, no_drop}

abbrev stayed : Stays f.ended.signature.params f.ended.kept
stayed = (stay_ref (0 ∷ []) tt (plain (λ _. R)), (stay_dropped _ _, tt))

abbrev ended : Ended
ended = g.ended Passed Heap ghosts dict no_drop

pub take_spec : {M : Type 1} → statement M
unfolding no_drop_code.code
take_spec {M} 𝓤 𝓛 𝓜 𝓡 wired =
    let c = f.clauses 𝓛 𝓜.mem 𝓡.returns in let W = walk_of 𝓛 f.ended stayed c in let 𝓣 = tables 𝓤 𝓛.H 𝓜 𝓡 𝓡.env in
    let known = met 𝓤 𝓛 𝓜 𝓡 (code.calls-std_alloc::boxed::Box::from_raw 𝓡.env wired) Passed Heap passed_laws heap_laws ghosts dict no_drop
    (passed 𝓡.env (code.calls-std_heap::GlobalAllocator::allocate 𝓡.env wired) (code.calls-std_heap::GlobalAllocator::deallocate 𝓡.env wired)
    (code.calls-std_heap::GlobalAllocator::grow 𝓡.env wired) (code.calls-std_heap::GlobalAllocator::shrink 𝓡.env wired) M 𝓤 𝓛 𝓜 𝓡)
    (glues "c_handles::Destruct++none::drop" 𝓡.env (code.calls-c_handles::Destruct++none::drop 𝓡.env wired) Heap heap_laws M 𝓤 𝓛 𝓜 𝓡) in
    let S = triple_of 𝓛 (g.signature Passed Heap ghosts dict no_drop) (g.spec Passed Heap ghosts dict no_drop 𝓛 𝓜.mem 𝓡.returns) in
    proved 𝓛 f.ended stayed c 𝓜 𝓡 (Goes-ref 𝓛 1 0 tt (plain (λ _. R)), (Goes-dropped 𝓛 1 (plain (λ _. G)) yes (λ κs x w. refl), tt))
    f.Key.name code.function (code.unfolded 𝓤 𝓛.H 𝓜 𝓡 wired)
    (λ κs. (mut_vals, ((λ x. global_lowers.lowered x ∷ []), tt))) (λ κs. (mut_Tells (named 0) κs.0 R, (global_lowers.val_is, tt))) (λ κs qs bounds a _ are.
    let b = a.0.ref_ptr.0 in let o = a.0.ref_ptr.1 in let vs = mut_vals a.0 in let alloc = a.1.0 in let heap = global_lowers.lowered alloc ∷ [] in
    let y : W.Ghost = ((κs, qs, bounds, a, (vs, (heap, tt))), tt) in
    qed 𝓛 (((‵ (flft κs.0 qs.0) ⊛ ‵ ftrue) ⊛ (‵ ((MutRef (named 0) κs.0 R).own_val a.0 vs) ⊛ (‵ (G.own_val alloc heap) ⊛ ‵ ftrue)))
    ∷ raw (fact 𝓤 (a.0.now.full ≡ true)) ∷ []) ∵
    move ! (1 ∷ []) $ heard ! _ (λ is_full. split ! $ split ! $ move ! (2 ∷ []) $ split ! $ move ! (1 ∷ []) $ split ! $ keep ! (2 ∷ 3 ∷ 0 ∷ []) $
    let s = record a.0.now { full = true } in
    rewrite ! 0 (λ (t : Bool). ‵ ((MutRef (named 0) κs.0 R).own_val (record a.0 { now = record a.0.now { full = t } }) vs)) is_full refl $
    enter ! _ _ _ _ _ $ alloc_all ! (λ l. pass_all ! refl ((tt, tt), ((tt, ((tt, tt), tt)), tt)) $
    fsplit3 ! $ move ! (1 ∷ 2 ∷ 3 ∷ []) $ opens ! tt R b o (λ us.
    move ! (1 ∷ []) $ peeks ! R _ (shows 𝓛 R) s us (λ is. fsplit ! $ move ! (1 ∷ []) $
    -- [what the slot owns beside its fields; what its fields own; its cell; the open borrow, in three entries; self's first part; the heap; ..]
    rewrite ! 2 (λ (ws : List Val). ‵ (cell_at full_share R.mir ws b o)) (lowers.val_is s us is) refl $
    assigns ! (of_opd ! (false_lit !)) (through ! refl (fld ! refl (stop !))) (store_in ! 2 (sub ! 0 refl (whole !)) (tt, tt)) $
    first ! $ blocks ! $
    let ptr_fits = ((rawptr_Lawful 𝓛).typed s.at _ refl).0 in
    sets ! (of_opd ! (load ! (through ! refl (fld ! refl (stop !))) (look_in ! 2 (sub ! 1 refl (whole !))))) refl ptr_fits $
    sets ! (of_opd ! (get ! refl)) refl ptr_fits $
    -- [box_owns; fields; cell; the open borrow, in three entries; self's first part; the heap; ..]
    lft_new ! tt (λ α. lft_new ! tt (λ β.
    let z : S.Ghost = (((α ∷ [], (β ∷ [], tt)), (full_share, (full_share, tt)), tt, (alloc, (s.at, tt)), (heap, (rawptr_vals s.at, tt))), s.core) in
    move ! (2 ∷ []) $ use0 𝓛 (raw (fact 𝓤 ((β ∷ []) ⊑ Heap.lives))) (fact_i 𝓤 _ _ (⊑_static (β ∷ []))) $ join ! $
    use0 𝓛 (raw (fact 𝓤 ((α ∷ []) ⊑ Passed.lives))) (fact_i 𝓤 _ _ (⊑_static (α ∷ []))) $ join ! $
    -- [requires; β; α; fields; cell; the open borrow, in three entries; self's first part; the heap; ..]
    nothing ! $ owned ! RawPtr _ (rawptr_Makes 𝓛) s.at _ refl $ join ! $ move ! (10 ∷ 0 ∷ []) $ join ! $
    nothing ! $ move ! (3 ∷ 0 ∷ []) $ join ! $ move ! (3 ∷ 0 ∷ []) $ join ! $ join ! $ join ! $
    use1 𝓛 (raw (S.pre z)) (id⊢ 𝓤 _) $
    calls_at_last ! (framed 𝓤 𝓛.H 𝓜 𝓣) S known z (and_then ! (get ! refl) (and_then ! (get ! refl) (no_more !))) (λ v.
    use1 𝓛 (later (some (λ (r : B.Denot). ((‵ (flft (α ∷ []) full_share) ⊛ (‵ (flft (β ∷ []) full_share) ⊛ ‵ ftrue)) ⊛ ‵ (B.own_val r (v ∷ []))) ⊛
    some (λ (ws : Lasts ended z.0.0 z.0.3). ‵ (lasts ended z.0.0 z.0.3 ws) ⊛ (raw (fact 𝓤 (r.value ≡ s.core)) ⊛ raw (fact 𝓤 (box_allocator r ≡ alloc)))))))
    (id⊢ 𝓤 _) $
    await ! tt $ pick ! (λ r. split ! $ move ! (1 ∷ []) $ pick ! (λ ws. split ! $ drop ! $ split ! $ heard ! _ (λ same. drop ! $ split ! $ drop ! $
    peeks ! B _ (shows 𝓛 B) r (v ∷ []) (λ is_box. let box_fits = ((box_lawful 𝓛).typed r (v ∷ []) is_box).0 in
    lands_last ! refl box_fits $
    exec ! 𝓣.C 𝓣.Λ (env code.Mir.locals l) (after 2 (code.function).body) (at_ret _ (W.post y)) $
    sets ! (of_opd ! (get ! refl)) refl box_fits $
    -- [the box; fields; cell; the open borrow, in three entries; self's first part; ..]
    let emptied = record s { full = false } in
    nothing ! $ use0 𝓛 (‵ (Fields emptied (word emptied))) (fields_made 𝓛 emptied) $ fjoin ! $ move ! (3 ∷ 0 ∷ 4 ∷ 5 ∷ 6 ∷ []) $
    closes ! tt R emptied (word emptied) b o $
    -- [two parts of self; the token; the box; fields; self's first part]
    returns ! (look_at ! 0 refl) $ free_all ! refl $
    suffices ! _ (ends_at 𝓛 f.ended stayed c y v r (emptied, (tt, tt)) (tt, (tt, tt))) $
    move ! (5 ∷ []) $ group ! 3 $ nothing ! $ nothing ! $ join ! $ move ! (1 ∷ 0 ∷ []) $ join ! $
    nothing ! $ move ! (2 ∷ 0 ∷ []) $ join ! $ group ! 3 $ frame ! $ says ! refl $ by ! (fact_i 𝓤 _ _ same)))))))))))))
