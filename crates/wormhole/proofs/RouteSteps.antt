-- What holds of the packets in the channels stays when a router puts a head flit into an output.
use Rattle.std.proofs.Common.{◌≡◌, ◌≢◌, ⊎_elim, ℕ, ◌<◌, List, [], ◌∷◌, ◌++◌, take, drop, None, All, refl, sym, ◌∙◌, ap, ap₂, subst}
use Rattle.std.proofs.lemmas.List.Elements.{All-push, All-head, All-tail}
use Rattle.wormhole.specs.Net.{Net, IsNet, IsOn, Parcel}
use Rattle.wormhole.specs.State.{NetLine, Note, NetState}
use Rattle.wormhole.specs.Events.{ForwardHead, CanForwardHead, forwarded, first_tail, popped, after}
use Rattle.wormhole.specs.Words.{Words}
use Rattle.wormhole.specs.Routes.{between, on_the_way, IsSentHere, IsBegunHere, Routes}
use Rattle.wormhole.proofs.Changes.{AreChangedAt, kept_both, changed_both}
use Rattle.wormhole.proofs.Receivers.{HasMoved, moved}
use Rattle.wormhole.proofs.Routers.{latched}
use Rattle.wormhole.proofs.Flows.{IsBetween, between_cases, push_other, pop_other, way_forward}
use Rattle.wormhole.proofs.Ways.{GoesOn, goes_on, next_on, apart_by_number}
use Rattle.wormhole.proofs.Quiet.{SeesSame, flow_same, rising_two, forwarded_owner}

-- a latched head flit's packet, and where it goes on
pub record HasWay (n : Net) (s : NetState) (x y flit : ℕ) : Type 0 where
  pub moves : HasMoved n (s.notes x) flit ((s.lines x).flits ++ (s.notes x).owed)
  pub ons : All (λ (k : Parcel). IsOn x (n.route k.source k.destination)) (moves.first ∷ drop 1 (s.notes x).parcels)
  pub goes : GoesOn n moves.first.source moves.first.destination x y
  pub within : y < n.channels
  pub apart : x ≢ y

pub has_way : (n : Net) (s : NetState) (x y flit : ℕ) → IsNet n → Words n s → Routes n s → CanForwardHead n (s.lines x) (s.lines y) x y flit
    → HasWay n s x y flit
has_way n s x y flit net w r c =
    let h : Note = s.notes x in
    let m = moved n h flit ((s.lines x).flits ++ h.owed) (w.parcels x) (w.awaited x) c.head (latched n s x flit w c.full) in
    let k : Parcel = m.first in
    let ons : All (λ (k : Parcel). IsOn x (n.route k.source k.destination)) (k ∷ drop 1 h.parcels) =
    subst (λ (ks : List Parcel). All (λ (k : Parcel). IsOn x (n.route k.source k.destination)) ks) m.was (r.on_route x) in
    let on : IsOn x (n.route k.source k.destination) =
    All-head (λ (k : Parcel). IsOn x (n.route k.source k.destination)) k (drop 1 h.parcels) ons in
    let same : y ≡ n.next x k.destination = c.output ∙ ap (n.next x) (ap n.told (sym m.head) ∙ m.parcel.told) in
    let goes : GoesOn n k.source k.destination x y =
    subst (λ (z : ℕ). GoesOn n k.source k.destination x z) (sym same) (goes_on n k.source k.destination x net m.parcel.joined c.input on) in
    record {
      moves = m;
      ons = ons;
      goes = goes;
      within = net.within k.source k.destination y m.parcel.joined (next_on n k.source k.destination x y goes);
      apart = apart_by_number n x y goes.rises;
    }

pub routes_forward_head : (n : Net) (s : NetState) (x y flit : ℕ) → Routes n s → HasWay n s x y flit
    → Routes n (after n s (ForwardHead x y flit))
routes_forward_head n s x y flit r way =
    let t : NetState = after n s (ForwardHead x y flit) in
    let h : Note = s.notes x in
    let g : Note = s.notes y in
    let m = way.moves in
    let k : Parcel = m.first in
    let l : NetLine = record (s.lines x) { latch = None } in
    let new : Note = popped h in
    let line : NetLine = forwarded n x flit (s.lines y) in
    let note : Note = record g { parcels = g.parcels ++ take 1 h.parcels; owed = first_tail h.parcels } in
    let ch : AreChangedAt s t x l new y line note = changed_both s x l new y line note way.apart in
    let parcels : g.parcels ++ take 1 h.parcels ≡ g.parcels ++ k ∷ [] = ap (λ (ks : List Parcel). g.parcels ++ ks) m.one in
    let goes = way.goes in
    record {
      on_route = kept_both (λ z l k. All (λ (k : Parcel). IsOn z (n.route k.source k.destination)) k.parcels) s t x l new y line note ch
          (All-tail (λ (k : Parcel). IsOn x (n.route k.source k.destination)) k (drop 1 h.parcels) way.ons)
          (subst (λ (ks : List Parcel). All (λ (k : Parcel). IsOn y (n.route k.source k.destination)) ks) (sym parcels)
          (All-push (λ (k : Parcel). IsOn y (n.route k.source k.destination)) g.parcels k (r.on_route y)
          (next_on n k.source k.destination x y goes)))
          (λ z d e. r.on_route z);
      rising = rising_two n s t x l new y line note r ch refl
          (λ a e. subst (λ (b : ℕ). n.number b < n.number y) (sym (forwarded_owner a x (n.is_tail flit) e)) goes.rises);
      sent = kept_both (λ z l k. All (IsSentHere n z) k.sent) s t x l new y line note ch (r.sent x) (r.sent y) (λ z d e. r.sent z);
      begun = kept_both (λ z l k. All (IsBegunHere n z) k.begun) s t x l new y line note ch (r.begun x) (r.begun y) (λ z d e. r.begun z);
      flow = λ i j joined. ⊎_elim
          (λ (is : IsBetween i j k).
          let begun : (z : ℕ) → (t.notes z).begun ≡ (s.notes z).begun =
          kept_both (λ z l k. k.begun ≡ (s.notes z).begun) s t x l new y line note ch refl refl (λ z d e. refl) in
          let sent : (z : ℕ) → (t.notes z).sent ≡ (s.notes z).sent =
          kept_both (λ z l k. k.sent ≡ (s.notes z).sent) s t x l new y line note ch refl refl (λ z d e. refl) in
          let p : ℕ → List Parcel = λ z. (s.notes z).parcels in
          let q : ℕ → List Parcel = λ z. (t.notes z).parcels in
          let at_x : p x ≡ k ∷ q x = m.was ∙ ap (λ (h : Note). k ∷ h.parcels) (sym ch.note) in
          let at_y : q y ≡ p y ++ k ∷ [] = ap (λ (h : Note). h.parcels) ch.note_too ∙ parcels in
          let others : (z : ℕ) → (z ≢ x) × (z ≢ y) → q z ≡ p z = λ z d. ap (λ (h : Note). h.parcels) (ch.notes z d.0 d.1) in
          let route : n.route i j ≡ goes.before ++ x ∷ y ∷ goes.after = ap₂ n.route (sym is.source) (sym is.destination) ∙ goes.route in
          let same : on_the_way i j q (n.route i j) ≡ on_the_way i j p (n.route i j) =
          ap (on_the_way i j q) route
          ∙ (way_forward i j p q goes.before goes.after x y k is at_x at_y (λ z on. others z (goes.early z on)) (λ z on. others z (goes.late z on))
          ∙ ap (on_the_way i j p) (sym route)) in
          ap (λ (ks : List Parcel). between i j ks ++ on_the_way i j q (n.route i j)) (begun j)
          ∙ (ap (λ (ks : List Parcel). between i j (s.notes j).begun ++ ks) same ∙ (r.flow i j joined ∙ ap (between i j) (sym (sent i)))))
          (λ (e : between i j (k ∷ []) ≡ []).
          flow_same n s t i j
          (kept_both (λ z l k. SeesSame i j k (s.notes z)) s t x l new y line note ch
          (record { parcels = pop_other i j k (drop 1 h.parcels) e ∙ ap (between i j) (sym m.was); sent = refl; begun = refl })
          (record { parcels = ap (between i j) parcels ∙ push_other i j g.parcels k e; sent = refl; begun = refl })
          (λ z d g. record { parcels = refl; sent = refl; begun = refl }))
          (r.flow i j joined))
          (between_cases i j k);
    }
