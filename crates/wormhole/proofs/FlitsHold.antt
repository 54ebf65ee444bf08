-- What holds of the flits of all packets that were sent holds of all flits.
use Rattle.std.proofs.Common.{◌≡◌, ⊎_elim, ℕ, zero, suc, ◌+◌, ◌≤◌, Bool, true, false, List, [], ◌∷◌, ◌++◌, Some}
use Rattle.std.proofs.Common.{All, option_to_list, refl, sym, subst, arith}
use Rattle.std.proofs.lemmas.List.Elements.{All-nil, All-head, All-tail, All-append}
use Rattle.wormhole.specs.Net.{Net, IsNet, IsOn, Parcel, IsParcel, net_flits, flits_of_all}
use Rattle.wormhole.specs.State.{NetState, in_line}
use Rattle.wormhole.specs.Words.{HasBeginning, Words}
use Rattle.wormhole.specs.Routes.{IsBegunHere, Routes}
use Rattle.wormhole.specs.Flits.{HoldsOfSent, HoldsOfFlits}
use Rattle.wormhole.proofs.Lists.{all_on, all_from, all_left, all_right}
use Rattle.wormhole.proofs.Arrivals.{was_sent, begun_was_sent}

-- it holds of all flits that are noted
pub record HoldsOfNoted (P : ℕ → Type 0) (s : NetState) : Type 0 where
  pub parcels : (x : ℕ) → All (λ (k : Parcel). All P (net_flits k)) (s.notes x).parcels
  pub awaited : (x : ℕ) → All P (s.notes x).awaited
  pub owed : (x : ℕ) → All P (s.notes x).owed

all_of_all : (P : ℕ → Type 0) (ks : List Parcel) → All (λ (k : Parcel). All P (net_flits k)) ks → All P (flits_of_all ks)
all_of_all P [] h = All-nil P
all_of_all P (k ∷ ks) h =
    All-append P (net_flits k) (flits_of_all ks)
    (All-head (λ (k : Parcel). All P (net_flits k)) k ks h)
    (all_of_all P ks (All-tail (λ (k : Parcel). All P (net_flits k)) k ks h))

-- of each flit in a channel or in the latch behind it
pub line_holds : (n : Net) (P : ℕ → Type 0) (s : NetState) (x : ℕ) → Words n s → HoldsOfNoted P s → All P (in_line (s.lines x))
line_holds n P s x w h =
    all_left P (in_line (s.lines x)) (s.notes x).owed
    (subst (λ (fs : List ℕ). All P fs) (w.contiguous x)
    (All-append P (s.notes x).awaited (flits_of_all (s.notes x).parcels) (h.awaited x) (all_of_all P (s.notes x).parcels (h.parcels x))))

pub latch_holds : (n : Net) (P : ℕ → Type 0) (s : NetState) (x flit : ℕ) → Words n s → HoldsOfNoted P s → (s.lines x).latch ≡ Some flit
    → P flit
latch_holds n P s x flit w h full =
    All-head P flit (s.lines x).flits (subst (λ o. All P (option_to_list o ++ (s.lines x).flits)) full (line_holds n P s x w h))

module _ (n : Net) (P : ℕ → Type 0) (s : NetState) (net : IsNet n) (w : Words n s) (r : Routes n s)
    (sent : (k : Parcel) → IsParcel n k → IsOn k (s.notes k.source).sent → All P (net_flits k)) where
  parcels_hold : (x : ℕ) → All (λ (k : Parcel). All P (net_flits k)) (s.notes x).parcels
  parcels_hold x =
      all_from (λ (k : Parcel). All P (net_flits k)) (s.notes x).parcels
      (λ k on. sent k (all_on (IsParcel n) (s.notes x).parcels k (w.parcels x) on) (was_sent n s x k w r on))

  -- what is owed in a channel is of what is awaited there, or of its packets
  owed_holds : (x : ℕ) → All P (s.notes x).awaited → All P (s.notes x).owed
  owed_holds x h =
      all_right P (in_line (s.lines x)) (s.notes x).owed
      (subst (λ (fs : List ℕ). All P fs) (w.contiguous x)
      (All-append P (s.notes x).awaited (flits_of_all (s.notes x).parcels) h (all_of_all P (s.notes x).parcels (parcels_hold x))))

  -- what a receiver has, and what it awaits, is of the last packet that it has begun
  assembling_holds : (x : ℕ) → n.ejects x ≡ true → All P (s.lines x).so_far × All P (s.notes x).awaited
  assembling_holds x ejects = ⊎_elim
      (λ (none : ((s.notes x).awaited ≡ []) × ((s.lines x).so_far ≡ [])).
      (subst (λ (fs : List ℕ). All P fs) (sym none.1) (All-nil P), subst (λ (fs : List ℕ). All P fs) (sym none.0) (All-nil P)))
      (λ (q : HasBeginning (s.lines x) (s.notes x)).
      let here : IsOn q.1 (s.notes x).begun = (q.0, [], q.2) in
      let begun = all_on (IsBegunHere n x) (s.notes x).begun q.1 (r.begun x) here in
      let all : All P ((s.lines x).so_far ++ (s.notes x).awaited) =
      subst (λ (fs : List ℕ). All P fs) (sym q.3) (sent q.1 begun.parcel (begun_was_sent n s x q.1 r here)) in
      (all_left P (s.lines x).so_far (s.notes x).awaited all, all_right P (s.lines x).so_far (s.notes x).awaited all))
      (w.assembling x ejects)

  -- what a router awaits is owed in the output that the input owns, and the numbers rise from owner to owned
  awaited_from : (x : ℕ) → ((y : ℕ) → (s.lines y).owner ≡ Some x → All P (s.notes y).awaited)
      → (ejects : Bool) → n.ejects x ≡ ejects → All P (s.notes x).awaited
  awaited_from x later true is = (assembling_holds x is).1
  awaited_from x later false is = ⊎_elim
      (λ (none : (s.notes x).awaited ≡ []). subst (λ (fs : List ℕ). All P fs) (sym none) (All-nil P))
      (λ (o : (y : ℕ) × ((s.lines y).owner ≡ Some x)).
      subst (λ (fs : List ℕ). All P fs) (w.held x o.0 o.1).same (owed_holds o.0 (later o.0 o.1)))
      (w.owning x is)

  -- the numbers rise to their bound
  awaited_up : (left x : ℕ) → n.top ≤ n.number x + left → All P (s.notes x).awaited
  awaited_up zero x h =
      awaited_from x (λ y o. let low = net.bounded x (w.inside.owner x y o) in absurd (omega arith)) (n.ejects x) refl
  awaited_up (suc left) x h =
      awaited_from x (λ y o. let up = r.rising x y o in awaited_up left y (omega arith)) (n.ejects x) refl

  -- what holds of the flits of the sent packets holds of all that are noted
  pub sent_holds : HoldsOfNoted P s
  sent_holds =
      let awaited : (x : ℕ) → All P (s.notes x).awaited = λ x. awaited_up n.top x (omega arith) in
      record { parcels = parcels_hold; awaited = awaited; owed = λ x. owed_holds x (awaited x) }

  -- and so of all flits
  pub flits_hold : HoldsOfFlits n P s
  flits_hold = record {
    channels = λ x. line_holds n P s x w sent_holds;
    senders = λ x i. subst (λ (fs : List ℕ). All P fs) (w.senders x i) (sent_holds.owed x);
    receivers = λ x e. (assembling_holds x e).0;
  }

pub flits_of_sent : (n : Net) (P : ℕ → Type 0) (s : NetState) → IsNet n → Words n s → Routes n s → HoldsOfSent P s → HoldsOfFlits n P s
flits_of_sent n P s net w r h =
    flits_hold n P s net w r (λ k parcel on. all_on (λ (k : Parcel). All P (net_flits k)) (s.notes k.source).sent k (h k.source) on)
