-- What inputs hold, and who owns outputs, tell the same after each event.
use Rattle.std.proofs.Common.{◌≡◌, ◌≢◌, ◌⊎◌, inl, inr, ⊎_elim, ℕ, ◌+◌, ◌-◌, Bool, true, false, cond, Option, Some, None, refl, sym, ◌∙◌, ap}
use Rattle.std.proofs.lemmas.Bool.{cases_eq}
use Rattle.wormhole.specs.Net.{Net, IsNet}
use Rattle.wormhole.specs.State.{NetLine, NetState, update, empty}
use Rattle.wormhole.specs.Events.{NetEvent, InjectHead, InjectRest, Latch, ForwardHead, ForwardRest, AcceptHead}
use Rattle.wormhole.specs.Events.{AcceptRest, Return, CanHappen, put, taken, accepted, forwarded, after}
use Rattle.wormhole.specs.Words.{Words}
use Rattle.wormhole.specs.Routes.{Routes}
use Rattle.wormhole.specs.Holds.{AreHolds, holds_after}
use Rattle.wormhole.proofs.Changes.{update_same, update_other}
use Rattle.wormhole.proofs.RouteSteps.{has_way}

-- a change of one channel that leaves its owner
holds_one : (holds : ℕ → Option ℕ) (ls : ℕ → NetLine) (x : ℕ) (l : NetLine) → l.owner ≡ (ls x).owner → AreHolds holds ls
    → AreHolds holds (update ls x l)
holds_one holds ls x l e a = record {
  owned = λ u v h. owners v ∙ a.owned u v h;
  held = λ u v h. a.held u v (sym (owners v) ∙ h);
}
  where
    owners : (z : ℕ) → (update ls x l z).owner ≡ (ls z).owner
    owners z = ⊎_elim
        (λ (same : z ≡ x). ap (λ (w : ℕ). (update ls x l w).owner) same
        ∙ (ap (λ (m : NetLine). m.owner) (update_same ls x l) ∙ (e ∙ ap (λ (w : ℕ). (ls w).owner) (sym same))))
        (λ (other : z ≢ x). ap (λ (m : NetLine). m.owner) (update_other ls x l z other))
        (cases_eq z x)

-- an output that an input comes to own, keeps or gives back
holds_two : (holds : ℕ → Option ℕ) (ls : ℕ → NetLine) (x y : ℕ) (m : NetLine) (bit : Bool) → m.owner ≡ cond bit None (Some x)
    → ((z : ℕ) → (ls z).owner ≡ Some x → z ≡ y) → ((ls y).owner ≡ None) ⊎ ((ls y).owner ≡ Some x)
    → AreHolds holds ls → AreHolds (update holds x (cond bit None (Some y))) (update ls y m)
holds_two holds ls x y m bit e only before a = record {
  owned = λ u v h. ⊎_elim
      (λ (same : u ≡ x).
      let v_is =
      here bit v (sym (update_same holds x (cond bit None (Some y))) ∙ (ap (update holds x (cond bit None (Some y))) (sym same) ∙ h)) in
      ap (λ (z : ℕ). (update ls y m z).owner) v_is.0
      ∙ (ap (λ (l : NetLine). l.owner) (update_same ls y m) ∙ (e ∙ (ap (λ (b : Bool). cond b None (Some x)) v_is.1 ∙ ap Some (sym same)))))
      (λ (other : u ≢ x).
      let old = a.owned u v (sym (update_other holds x (cond bit None (Some y)) u other) ∙ h) in
      ⊎_elim
      (λ (same : v ≡ y).
      let o : (ls y).owner ≡ Some u = ap (λ (z : ℕ). (ls z).owner) (sym same) ∙ old in
      ⊎_elim (λ (none : (ls y).owner ≡ None). cc) (λ (mine : (ls y).owner ≡ Some x). let q : u ≡ x = cc in absurd (other q)) before)
      (λ (apart : v ≢ y). ap (λ (l : NetLine). l.owner) (update_other ls y m v apart) ∙ old)
      (cases_eq v y))
      (cases_eq u x);
  held = λ u v h. ⊎_elim
      (λ (same : v ≡ y).
      let u_is =
      there bit u (sym e ∙ (ap (λ (l : NetLine). l.owner) (sym (update_same ls y m)) ∙ (ap (λ (z : ℕ). (update ls y m z).owner) (sym same) ∙ h))) in
      ap (update holds x (cond bit None (Some y))) u_is.0
      ∙ (update_same holds x (cond bit None (Some y)) ∙ (ap (λ (b : Bool). cond b None (Some y)) u_is.1 ∙ ap Some (sym same))))
      (λ (other : v ≢ y).
      let old : (ls v).owner ≡ Some u = ap (λ (l : NetLine). l.owner) (sym (update_other ls y m v other)) ∙ h in
      ⊎_elim
      (λ (same : u ≡ x). absurd (other (only v (old ∙ ap Some same))))
      (λ (apart : u ≢ x). update_other holds x (cond bit None (Some y)) u apart ∙ a.held u v old)
      (cases_eq u x))
      (cases_eq v y);
}
  where
    here : (b : Bool) (v : ℕ) → cond b None (Some y) ≡ Some v → (v ≡ y) × (b ≡ false)
    here true v h = cc
    here false v h = (cc, refl)

    there : (b : Bool) (u : ℕ) → cond b None (Some x) ≡ Some u → (u ≡ x) × (b ≡ false)
    there true u h = cc
    there false u h = (cc, refl)

pub holds_empty : (n : Net) → AreHolds (λ x. None) (empty n).lines
holds_empty n = record { owned = λ x y h. cc; held = λ x y h. cc }

pub holds_kept : (n : Net) (s : NetState) (holds : ℕ → Option ℕ) (e : NetEvent) → IsNet n → Words n s → Routes n s → CanHappen n s.lines e
    → AreHolds holds s.lines → AreHolds (holds_after n holds e) (after n s e).lines
holds_kept n s holds (InjectHead x k) net w r c a = holds_one holds s.lines x (record (put k.head (s.lines x)) { rest = k.tail }) refl a
holds_kept n s holds (InjectRest x flit more) net w r c a = holds_one holds s.lines x (record (put flit (s.lines x)) { rest = more }) refl a
holds_kept n s holds (Latch x flit more) net w r c a =
    holds_one holds s.lines x (record (taken more (s.lines x)) { latch = Some flit }) refl a
holds_kept n s holds (ForwardHead x y flit) net w r c a =
    let way = has_way n s x y flit net w r c in
    let l : NetLine = record (s.lines x) { latch = None } in
    let ls : ℕ → NetLine = update s.lines x l in
    let owner_y : (ls y).owner ≡ (s.lines y).owner = ap (λ (m : NetLine). m.owner) (update_other s.lines x l y (λ e. way.apart (sym e))) in
    let a_too = holds_one holds s.lines x l refl a in
    holds_two holds ls x y (forwarded n x flit (s.lines y)) (n.is_tail flit) refl
    (λ z o. absurd ((w.held x z (a.owned x z (a_too.held x z o))).more way.moves.none))
    (inl (owner_y ∙ c.free))
    a_too
holds_kept n s holds (ForwardRest x y flit) net w r c a =
    let l : NetLine = record (s.lines x) { latch = None } in
    let ls : ℕ → NetLine = update s.lines x l in
    let a_too = holds_one holds s.lines x l refl a in
    holds_two holds ls x y (forwarded n x flit (s.lines y)) (n.is_tail flit) refl
    (λ z o. w.single x z y (a.owned x z (a_too.held x z o)) c.owned)
    (inr (a_too.owned x y (a.held x y c.owned)))
    a_too
holds_kept n s holds (AcceptHead x flit more) net w r c a = holds_one holds s.lines x (accepted n flit more (s.lines x)) refl a
holds_kept n s holds (AcceptRest x flit more) net w r c a = holds_one holds s.lines x (accepted n flit more (s.lines x)) refl a
holds_kept n s holds (Return x) net w r c a =
    holds_one holds s.lines x (record (s.lines x) { held = (s.lines x).held + 1; returning = (s.lines x).returning - 1 }) refl a

-- an output that no input holds is unowned
pub free_from_holds : (holds : ℕ → Option ℕ) (ls : ℕ → NetLine) (y : ℕ) → AreHolds holds ls → ((x : ℕ) → holds x ≢ Some y)
    → (ls y).owner ≡ None
free_from_holds holds ls y a h = at (ls y).owner refl
  where
    at : (o : Option ℕ) → (ls y).owner ≡ o → (ls y).owner ≡ None
    at None e = e
    at (Some x) e = absurd (h x (a.held x y e))
