-- What arrives: whole packets in their order, and no flit that is refused.
use Rattle.std.proofs.Common.{◌≡◌, ⊎_elim, ℕ, ◌<◌, ◌==◌, ◌&&◌, Bool, true, false, cond, List, [], ◌∷◌, ◌++◌, Some}
use Rattle.std.proofs.Common.{drop, All, refl, sym, ◌∙◌, ap, ap₂, subst, append_assoc, append-nil, eq-eqb}
use Rattle.wormhole.specs.Net.{Net, IsNet, IsOn, Parcel, IsParcel}
use Rattle.wormhole.specs.State.{Note, NetState}
use Rattle.wormhole.specs.Words.{Words}
use Rattle.wormhole.specs.Routes.{between, on_the_way, IsBegunHere, Routes}
use Rattle.wormhole.specs.Delivery.{without_last, whole_of, whole, IsDelivered, WasSentTo, IsRouted, HeadHasOutput}
use Rattle.wormhole.proofs.Lists.{all_on, all_from, all_left, on_left, on_right}
use Rattle.wormhole.proofs.Channels.{pop_rest}
use Rattle.wormhole.proofs.Receivers.{moved}
use Rattle.wormhole.proofs.Routers.{latched}
use Rattle.wormhole.proofs.Flows.{between_append}
use Rattle.wormhole.proofs.Ways.{goes_on, next_on}

-- a packet is among those of its ends
pub sees_own : (k : Parcel) → between k.source k.destination (k ∷ []) ≡ k ∷ []
sees_own k = ap₂ (λ (a b : Bool). cond (a && b) (k ∷ []) []) (eq-eqb k.source k.source refl) (eq-eqb k.destination k.destination refl)

pub on_between : (k : Parcel) (ks : List Parcel) → IsOn k ks → IsOn k (between k.source k.destination ks)
on_between k ks on =
    let i : ℕ = k.source in
    let j : ℕ = k.destination in (
      between i j on.0,
      between i j on.1,
      ap (between i j) on.2
          ∙ (between_append i j on.0 (k ∷ on.1) ∙ ap (λ (ls : List Parcel). between i j on.0 ++ ls)
          (between_append i j (k ∷ []) on.1 ∙ ap (λ (ls : List Parcel). ls ++ between i j on.1) (sees_own k))),
    )

-- who is on a list is its first or on the others
first_or_other : (k l : Parcel) (xs ks : List Parcel) → (IsOn k xs → IsOn k ks) → IsOn k (l ∷ xs) → IsOn k (l ∷ ks)
first_or_other k l xs ks more on = at on.0 on.1 on.2
  where
    at : (before after : List Parcel) → l ∷ xs ≡ before ++ k ∷ after → IsOn k (l ∷ ks)
    at [] after e = ([], ks, cc)
    at (b ∷ before) after e = let on = more (before, after, cc) in (l ∷ on.0, on.1, ap (λ (ms : List Parcel). l ∷ ms) on.2)

kept_or_not : (k l : Parcel) (xs ks : List Parcel) (bit : Bool) → (IsOn k xs → IsOn k ks) → IsOn k (cond bit (l ∷ xs) xs) → IsOn k (l ∷ ks)
kept_or_not k l xs ks true more on = first_or_other k l xs ks more on
kept_or_not k l xs ks false more on = let at = more on in (l ∷ at.0, at.1, ap (λ (ms : List Parcel). l ∷ ms) at.2)

-- who is among the packets of two ends is among all
pub from_between : (i j : ℕ) (k : Parcel) (ks : List Parcel) → IsOn k (between i j ks) → IsOn k ks
from_between i j k [] on = on
from_between i j k (l ∷ ks) on = kept_or_not k l (between i j ks) ks (l.source == i && l.destination == j) (from_between i j k ks) on

-- who is in a channel of a list is on the way
pub on_way : (i j x : ℕ) (k : Parcel) (p : ℕ → List Parcel) (before after : List ℕ) → IsOn k (between i j (p x))
    → IsOn k (on_the_way i j p (before ++ x ∷ after))
on_way i j x k p [] after on = on_right k (on_the_way i j p after) (between i j (p x)) on
on_way i j x k p (y ∷ before) after on =
    on_left k (on_the_way i j p (before ++ x ∷ after)) (between i j (p y)) (on_way i j x k p before after on)

-- a packet in a channel was sent
pub was_sent : (n : Net) (s : NetState) (x : ℕ) (k : Parcel) → Words n s → Routes n s → IsOn k (s.notes x).parcels
    → IsOn k (s.notes k.source).sent
was_sent n s x k w r on =
    let i : ℕ = k.source in
    let j : ℕ = k.destination in
    let p : ℕ → List Parcel = λ z. (s.notes z).parcels in
    let joined = (all_on (IsParcel n) (s.notes x).parcels k (w.parcels x) on).joined in
    let way = all_on (λ (k : Parcel). IsOn x (n.route k.source k.destination)) (s.notes x).parcels k (r.on_route x) on in
    let there : IsOn k (on_the_way i j p (n.route i j)) =
    subst (λ (xs : List ℕ). IsOn k (on_the_way i j p xs)) (sym way.2) (on_way i j x k p way.0 way.1 (on_between k (s.notes x).parcels on)) in
    from_between i j k (s.notes i).sent (subst (λ (ks : List Parcel). IsOn k ks) (r.flow i j joined)
    (on_right k (between i j (s.notes j).begun) (on_the_way i j p (n.route i j)) there))

-- a packet begun at its receiver was sent
pub begun_was_sent : (n : Net) (s : NetState) (x : ℕ) (k : Parcel) → Routes n s → IsOn k (s.notes x).begun → IsOn k (s.notes k.source).sent
begun_was_sent n s x k r on =
    let i : ℕ = k.source in
    let j : ℕ = k.destination in
    let p : ℕ → List Parcel = λ z. (s.notes z).parcels in
    let here = all_on (IsBegunHere n x) (s.notes x).begun k (r.begun x) on in
    let there : IsOn k (s.notes j).begun = subst (λ (z : ℕ). IsOn k (s.notes z).begun) (sym here.destination) on in
    from_between i j k (s.notes i).sent
    (subst (λ (ks : List Parcel). IsOn k ks) (r.flow i j here.parcel.joined)
    (on_left k (between i j (s.notes j).begun) (on_the_way i j p (n.route i j)) (on_between k (s.notes j).begun there)))

-- a list is its items but the last, and then the last
last_apart : (ks : List Parcel) → (ls : List Parcel) × (ks ≡ without_last ks ++ ls)
last_apart [] = ([], refl)
last_apart (k ∷ []) = (k ∷ [], refl)
last_apart (k ∷ l ∷ ks) = let at = last_apart (l ∷ ks) in (at.0, ap (λ (ms : List Parcel). k ∷ ms) at.1)

whole_begins : (awaited : List ℕ) (ks : List Parcel) → (ls : List Parcel) × (ks ≡ whole_of awaited ks ++ ls)
whole_begins [] ks = ([], sym (append-nil ks))
whole_begins (f ∷ fs) ks = last_apart ks

pub delivered : (n : Net) (s : NetState) (i j : ℕ) → Routes n s → n.joins i j ≡ true → IsDelivered s i j
delivered n s i j r joined =
    let at = whole_begins (s.notes j).awaited (s.notes j).begun in
    let rest : List Parcel = between i j at.0 in
    let way : List Parcel = on_the_way i j (λ x. (s.notes x).parcels) (n.route i j) in (
      rest ++ way,
      sym (r.flow i j joined)
          ∙ (ap (λ (ks : List Parcel). ks ++ way) (ap (between i j) at.1 ∙ between_append i j (whole s j) at.0) ∙ append_assoc
          (between i j (whole s j)) rest way),
    )

-- a whole packet was sent to where it is
pub whole_was_sent : (n : Net) (s : NetState) (x : ℕ) → Routes n s → All (WasSentTo n s x) (whole s x)
whole_was_sent n s x r =
    let at = whole_begins (s.notes x).awaited (s.notes x).begun in
    let all : All (WasSentTo n s x) (s.notes x).begun = all_from (WasSentTo n s x) (s.notes x).begun (λ k on.
    let here = all_on (IsBegunHere n x) (s.notes x).begun k (r.begun x) on in
    record { parcel = here.parcel; destination = here.destination; sent = begun_was_sent n s x k r on }) in
    all_left (WasSentTo n s x) (whole s x) at.0 (subst (λ (ks : List Parcel). All (WasSentTo n s x) ks) at.1 all)

-- a head flit in a latch
pub is_routed : (n : Net) (s : NetState) (x flit : ℕ) → IsNet n → Words n s → Routes n s → n.ejects x ≡ false → (s.lines x).latch ≡ Some flit
    → n.is_head flit ≡ true → IsRouted n s x flit
is_routed n s x flit net w r input full head =
    let h : Note = s.notes x in
    let m = moved n h flit ((s.lines x).flits ++ h.owed) (w.parcels x) (w.awaited x) head (latched n s x flit w full) in
    let k : Parcel = m.first in
    let here : IsOn k h.parcels = ([], drop 1 h.parcels, m.was) in
    let way : IsOn x (n.route k.source k.destination) =
    all_on (λ (k : Parcel). IsOn x (n.route k.source k.destination)) h.parcels k (r.on_route x) here in
    let goes = goes_on n k.source k.destination x net m.parcel.joined input way in
    let there : k.destination ≡ n.told flit = sym m.parcel.told ∙ ap n.told m.head in
    let told : n.next x k.destination ≡ n.next x (n.told flit) = ap (n.next x) there in
    record {
      packet = k;
      parcel = m.parcel;
      head = m.head;
      sent = was_sent n s x k w r here;
      here = way;
      there = subst (λ (z : ℕ). IsOn z (n.route k.source k.destination)) told (next_on n k.source k.destination x (n.next x k.destination) goes);
      rises = subst (λ (z : ℕ). n.number x < n.number z) told goes.rises;
    }

-- a body or tail flit in a latch
pub has_output : (n : Net) (s : NetState) (x flit : ℕ) → Words n s → n.ejects x ≡ false → (s.lines x).latch ≡ Some flit
    → n.is_head flit ≡ false → HeadHasOutput s x
has_output n s x flit w input full rest =
    let h : Note = s.notes x in
    let p = pop_rest n h.awaited h.parcels flit ((s.lines x).flits ++ h.owed) (w.parcels x) rest (latched n s x flit w full) in
    ⊎_elim
    (λ (none : h.awaited ≡ []). let f = p.1 in cc)
    (λ (o : (y : ℕ) × ((s.lines y).owner ≡ Some x)). record { output = o.0; owned = o.1; only = λ y e. w.single x y o.0 e o.1 })
    (w.owning x input)
