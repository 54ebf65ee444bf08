-- What holds of the packets under way stays when a router gives a channel to a packet.
use Rattle.std.proofs.Common.{◌≡◌, ◌≢◌, ◌⊎◌, inl, inr, ⊎_elim, ℕ, ◌+◌, ◌<◌, true, List, [], ◌∷◌, ◌++◌, take, drop, Some, None, All, refl, sym, ◌∙◌, ap, subst, arith}
use Rattle.std.proofs.lemmas.Bool.{cases_eq}
use Rattle.std.proofs.lemmas.List.Elements.{All-push, All-tail}
use Rattle.wormhole.specs.Net.{Parcel}
use Rattle.wormhole.specs.State.{NetLine, Note, NetState, in_line, update}
use Rattle.wormhole.specs.Events.{ForwardHead, forwarded, first_tail, popped, after}
use Rattle.wormhole.specs.Words.{Words}
use Rattle.wormhole.proofs.Changes.{AreChangedAt, kept_both, changed_both, update_same, update_other}
use Rattle.wormhole.proofs.Channels.{push_not_empty}
use Rattle.wormhole.proofs.Quiet.{forwarded_owner}
use Rattle.network_adaptive.specs.Choices.{AdaptiveNet, IsAdaptiveNet, Comes, ByChoice, IsChoice}
use Rattle.network_adaptive.specs.Flow.{CanAllocate}
use Rattle.network_adaptive.specs.Tracks.{IsAlone, AreTracks}
use Rattle.network_adaptive.proofs.Kept.{Given, no_parcels}

module _ (n : AdaptiveNet) (net : IsAdaptiveNet n) (s : NetState) (w : Words n.frame s) (course stamp : ℕ → ℕ) (now : ℕ) (a : AreTracks n s course stamp now)
    (x y flit : ℕ) (c : CanAllocate n (s.lines x) (s.lines y) x y flit) (g : Given n net s w course stamp now a x y flit) where
  abbrev k : Parcel
  k = g.moves.first

  abbrev j : ℕ
  j = k.destination

  abbrev t : NetState
  t = after n.frame s (ForwardHead x y flit)

  abbrev line : NetLine
  line = record (s.lines x) { latch = None }

  abbrev note : Note
  note = popped (s.notes x)

  abbrev line_too : NetLine
  line_too = forwarded n.frame x flit (s.lines y)

  abbrev note_too : Note
  note_too = record (s.notes y) { parcels = (s.notes y).parcels ++ take 1 (s.notes x).parcels; owed = first_tail (s.notes x).parcels }

  ch : AreChangedAt s t x line note y line_too note_too
  ch = changed_both s x line note y line_too note_too g.apart

  -- an owner in the new state: x of y, or one of before
  record IsOld (u v : ℕ) : Type 0 where
    output : v ≢ y
    input : u ≢ x
    owner : (s.lines v).owner ≡ Some u

  owners : (u v : ℕ) → (t.lines v).owner ≡ Some u → ((v ≡ y) × (u ≡ x)) ⊎ IsOld u v
  owners u v o = ⊎_elim
      (λ (e : v ≡ y). inl (
        e,
        forwarded_owner u x (n.frame.is_tail flit)
            (sym (ap (λ (l : NetLine). l.owner) ch.line_too) ∙ (ap (λ z. (t.lines z).owner) (sym e) ∙ o)),
      ))
      (λ (d : v ≢ y).
      let old : (s.lines v).owner ≡ Some u =
      sym (kept_both (λ z l k. z ≢ y → l.owner ≡ (s.lines z).owner) s t x line note y line_too note_too ch
      (λ d. refl) (λ d. absurd (d refl)) (λ z d e f. refl) v d) ∙ o in
      inr (record { output = d; input = λ e. (w.held x v (old ∙ ap Some e)).more g.moves.none; owner = old }))
      (cases_eq v y)

  parcels_too : note_too.parcels ≡ (s.notes y).parcels ++ k ∷ []
  parcels_too = ap (λ (ks : List Parcel). (s.notes y).parcels ++ ks) g.moves.one

  course_at : update course x j x ≡ j
  course_at = update_same course x j

  alone_there : in_line (s.lines y) ≡ [] → IsAlone (t.notes y) (update course x j y) j
  alone_there empty =
      let none = no_parcels (s.notes y).awaited (s.notes y).parcels
      (w.contiguous y ∙ (ap (λ (fs : List ℕ). fs ++ (s.notes y).owed) empty ∙ w.free y g.output c.free)) in
      inr (
        k,
        ap (λ (v : Note). v.awaited) ch.note_too ∙ none.0,
        ap (λ (v : Note). v.parcels) ch.note_too ∙ (parcels_too ∙ ap (λ (ks : List Parcel). ks ++ k ∷ []) none.1),
        refl,
      )

  -- a packet that was alone still is
  alone_here : (i : ℕ) → IsAlone (s.notes x) (course x) i → IsAlone (t.notes x) (update course x j x) i
  alone_here i is = ⊎_elim
      (λ (b : ((s.notes x).parcels ≡ []) × (course x ≡ i)). let bad : k ∷ drop 1 (s.notes x).parcels ≡ [] = sym g.moves.was ∙ b.0 in cc)
      (λ (b : (k : Parcel) × ((s.notes x).awaited ≡ []) × ((s.notes x).parcels ≡ k ∷ []) × (k.destination ≡ i)).
      inl (
        ap (λ (v : Note). v.parcels) ch.note ∙ ap (λ (ks : List Parcel). drop 1 ks) b.2,
        course_at ∙ (let same : k ∷ drop 1 (s.notes x).parcels ≡ b.0 ∷ [] = sym g.moves.was ∙ b.2 in
            let e : k ≡ b.0 = cc in ap (λ (v : Parcel). v.destination) e) ∙ b.3,
      ))
      is

  alone_other : (v i : ℕ) → v ≢ y → IsAlone (s.notes v) (course v) i → IsAlone (t.notes v) (update course x j v) i
  alone_other v i d is = ⊎_elim
      (λ (e : v ≡ x). subst (λ z. IsAlone (t.notes z) (update course x j z) i) (sym e)
      (alone_here i (subst (λ z. IsAlone (s.notes z) (course z) i) e is)))
      (λ (f : v ≢ x). subst (λ (z : Note). IsAlone z (update course x j v) i) (sym (ch.notes v f d))
      (subst (λ z. IsAlone (s.notes v) z i) (sym (update_other course x j v f)) is))
      (cases_eq v x)

  still : (u v : ℕ) → (t.lines v).owner ≡ Some u
      → (n.escapes u (update course x j u) v ≡ true) ⊎ IsAlone (t.notes v) (update course x j v) (update course x j u)
  still u v o = ⊎_elim
      (λ (e : (v ≡ y) × (u ≡ x)).
      let same : update course x j u ≡ j = ap (update course x j) e.1 ∙ course_at in
      ⊎_elim
      (λ (is : n.escapes x (n.frame.told flit) y ≡ true). inl
      (subst (λ z. n.escapes u z v ≡ true) (sym same)
      (subst (λ z. n.escapes z j v ≡ true) (sym e.1) (subst (λ z. n.escapes x j z ≡ true) (sym e.0) (subst (λ z. n.escapes x z y ≡ true) g.told is)))))
      (λ (empty : in_line (s.lines y) ≡ []). inr
      (subst (λ z. IsAlone (t.notes v) (update course x j v) z) (sym same)
      (subst (λ z. IsAlone (t.notes z) (update course x j z) j) (sym e.0) (alone_there empty))))
      c.room)
      (λ (old : IsOld u v).
      let same : update course x j u ≡ course u = update_other course x j u old.input in
      ⊎_elim
      (λ (is : n.escapes u (course u) v ≡ true). inl (subst (λ z. n.escapes u z v ≡ true) (sym same) is))
      (λ (is : IsAlone (s.notes v) (course v) (course u)). inr
      (subst (λ z. IsAlone (t.notes v) (update course x j v) z) (sym same) (alone_other v (course u) old.output is)))
      (a.alone u v old.owner))
      (owners u v o)

  later : (u v : ℕ) → (t.lines v).owner ≡ Some u → (t.notes u).parcels ≡ [] → update stamp y (now + 1) u < update stamp y (now + 1) v
  later u v o none = ⊎_elim
      (λ (e : (v ≡ y) × (u ≡ x)).
      let p : update stamp y (now + 1) u ≡ stamp x = ap (update stamp y (now + 1)) e.1 ∙ update_other stamp y (now + 1) x g.apart in
      let q : update stamp y (now + 1) v ≡ now + 1 = ap (update stamp y (now + 1)) e.0 ∙ update_same stamp y (now + 1) in
      let r = a.past x in
      omega arith)
      (λ (old : IsOld u v).
      let apart : u ≢ y = λ e. push_not_empty (s.notes y).parcels k
      (sym parcels_too ∙ (sym (ap (λ (z : Note). z.parcels) ch.note_too) ∙ (ap (λ z. (t.notes z).parcels) (sym e) ∙ none))) in
      let before : stamp u < stamp v = a.order u v old.owner (sym (ap (λ (z : Note). z.parcels) (ch.notes u old.input apart)) ∙ none) in
      let p : update stamp y (now + 1) u ≡ stamp u = update_other stamp y (now + 1) u apart in
      let q : update stamp y (now + 1) v ≡ stamp v = update_other stamp y (now + 1) v old.output in
      omega arith)
      (owners u v o)

  pub tracks_forward_head : AreTracks n t (update course x j) (update stamp y (now + 1)) (now + 1)
  tracks_forward_head = record {
    comes = kept_both (λ z l k. All (λ k. Comes n k.destination z) k.parcels) s t x line note y line_too note_too ch
        (All-tail (λ k. Comes n k.destination x) k (drop 1 (s.notes x).parcels)
        (subst (λ (ks : List Parcel). All (λ k. Comes n k.destination x) ks) g.moves.was (a.comes x)))
        (subst (λ (ks : List Parcel). All (λ k. Comes n k.destination y) ks) (sym parcels_too)
        (All-push (λ k. Comes n k.destination y) (s.notes y).parcels k (a.comes y) (ByChoice x y g.comes g.step)))
        (λ z d e. a.comes z);
    coming = λ z e more. ⊎_elim
        (λ (f : z ≡ x). subst (λ v. Comes n (update course x j v) v) (sym f) (subst (λ v. Comes n v x) (sym course_at) g.comes))
        (λ (d : z ≢ x).
        let awaits : (t.notes z).awaited ≡ (s.notes z).awaited =
        kept_both (λ z l k. z ≢ x → k.awaited ≡ (s.notes z).awaited) s t x line note y line_too note_too ch
        (λ d. absurd (d refl)) (λ d. refl) (λ z d e f. refl) z d in
        subst (λ v. Comes n v z) (sym (update_other course x j z d)) (a.coming z e (λ none. more (awaits ∙ none))))
        (cases_eq z x);
    owned = λ u v o. ⊎_elim
        (λ (e : (v ≡ y) × (u ≡ x)).
        subst (λ z. IsChoice n z u v) (sym (ap (update course x j) e.1 ∙ course_at))
        (subst (λ z. IsChoice n j z v) (sym e.1) (subst (λ z. IsChoice n j x z) (sym e.0) g.step)))
        (λ (old : IsOld u v). subst (λ z. IsChoice n z u v) (sym (update_other course x j u old.input)) (a.owned u v old.owner))
        (owners u v o);
    alone = still;
    order = later;
    past = λ z. ⊎_elim
        (λ (e : z ≡ y). let p : update stamp y (now + 1) z ≡ now + 1 = ap (update stamp y (now + 1)) e ∙ update_same stamp y (now + 1) in omega arith)
        (λ (d : z ≢ y). let p : update stamp y (now + 1) z ≡ stamp z = update_other stamp y (now + 1) z d in let q = a.past z in omega arith)
        (cases_eq z y);
  }
