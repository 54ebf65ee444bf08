-- What arrives: packets that were sent, whole and once.
use Rattle.std.proofs.Common.{◌≡◌, ℕ, zero, suc, ◌<◌, ◌≤◌, Bool, true, false, cond, List, [], ◌∷◌, ◌++◌, All, refl, sym, ◌∙◌, ap, subst, arith, append-nil}
use Rattle.std.specs.List.{sum_by}
use Rattle.std.proofs.lemmas.List.Sums.{sum_by-append}
use Rattle.wormhole.specs.Net.{Parcel, IsOn, has_no_flit}
use Rattle.wormhole.specs.State.{Note, NetState, empty}
use Rattle.wormhole.specs.Events.{NetEvent, CanAccept, accepted, after, after_all}
use Rattle.wormhole.specs.Words.{Words}
use Rattle.wormhole.specs.Delivery.{without_last, whole_of, whole, WasSentTo, StayWhole, accept}
use Rattle.wormhole.proofs.Lists.{all_on, all_left}
use Rattle.wormhole.proofs.Changes.{IsChangedAt, changed, kept}
use Rattle.wormhole.proofs.Reached.{words_empty}
use Rattle.wormhole.proofs.Takes.{note_of, Takes, takes_sent}
use Rattle.wormhole.specs.Weight.{sum_below}
use Rattle.wormhole.specs.Ends.{IsQuiet}
use Rattle.wormhole.proofs.Sums.{sum_same}
use Rattle.network_adaptive.specs.Choices.{AdaptiveNet, IsAdaptiveNet, Comes}
use Rattle.network_adaptive.specs.Flow.{CanAllOccur, IsReachable}
use Rattle.network_adaptive.specs.Tracks.{HasTracks}
use Rattle.network_adaptive.specs.Arrivals as arrivals
use Rattle.network_adaptive.specs.Arrivals.{sum_of_packets, AreSent}
use Rattle.network_adaptive.proofs.Reached.{words_kept, tracks_kept, tracks_empty}
use Rattle.network_adaptive.proofs.Sent.{sent_kept, sent_empty}

kept_by_all : (n : AdaptiveNet) (s : NetState) (es : List NetEvent) → IsAdaptiveNet n → Words n.frame s → HasTracks n s → AreSent n s → CanAllOccur n s es
    → AreSent n (after_all n.frame s es)
kept_by_all n s [] net w r a c = a
kept_by_all n s (e ∷ es) net w r a c =
    kept_by_all n (after n.frame s e) es net (words_kept n s e net w r c.0) (tracks_kept n s e net w r c.0) (sent_kept n s e net w r a c.0) c.1

pub sent_reached : (n : AdaptiveNet) (s : NetState) → IsAdaptiveNet n → IsReachable n s → AreSent n s
sent_reached n s net is =
    subst (AreSent n) (sym is.stands) (kept_by_all n (empty n.frame) is.events net (words_empty n.frame) (tracks_empty n) (sent_empty n) is.may)

-- a list is its items but the last, and then the last
last_apart : (ks : List Parcel) → (ls : List Parcel) × (ks ≡ without_last ks ++ ls)
last_apart [] = ([], refl)
last_apart (k ∷ []) = (k ∷ [], refl)
last_apart (k ∷ l ∷ ks) = let at = last_apart (l ∷ ks) in (at.0, ap (λ (ms : List Parcel). k ∷ ms) at.1)

whole_begins : (awaited : List ℕ) (ks : List Parcel) → (ls : List Parcel) × (ks ≡ whole_of awaited ks ++ ls)
whole_begins [] ks = ([], sym (append-nil ks))
whole_begins (f ∷ fs) ks = last_apart ks

-- a whole packet was sent to where it is
pub whole_was_sent : (n : AdaptiveNet) (s : NetState) → AreSent n s → (x : ℕ) → All (WasSentTo n.frame s x) (whole s x)
whole_was_sent n s r x =
    let at = whole_begins (s.notes x).awaited (s.notes x).begun in
    all_left (WasSentTo n.frame s x) (whole s x) at.0 (subst (λ (ks : List Parcel). All (WasSentTo n.frame s x) ks) at.1 (r.begun x))

sum_less : (m : ℕ) (f g : ℕ → ℕ) → ((x : ℕ) → x < m → f x ≤ g x) → sum_below m f ≤ sum_below m g
sum_less zero f g less = omega arith
sum_less (suc m) f g less = let a = sum_less m f g (λ x l. less x (omega arith)) in let b = less m (omega arith) in omega arith

-- no packet is whole more often than it was sent
pub whole_once : (n : AdaptiveNet) (s : NetState) → AreSent n s → (f : Parcel → ℕ) → sum_of_packets n f (whole s) ≤ sum_of_packets n f (λ x. (s.notes x).sent)
whole_once n s r f =
    let less = sum_less n.frame.channels (λ x. sum_by f (whole s x)) (λ x. sum_by f ((s.notes x).begun ++ (s.notes x).parcels)) (λ x l.
    (let at = whole_begins (s.notes x).awaited (s.notes x).begun in
    let a : sum_by f (s.notes x).begun ≡ sum_by f (whole s x ++ at.0) = ap (sum_by f) at.1 in
    let b = sum_by-append f (whole s x) at.0 in
    let c = sum_by-append f (s.notes x).begun (s.notes x).parcels in
    omega arith)) in
    let all = r.all f in
    omega arith

-- over a quiet network all have come
pub all_come : (n : AdaptiveNet) (s : NetState) → AreSent n s → ((x : ℕ) → x < n.frame.channels → IsQuiet n.frame s x) → (f : Parcel → ℕ)
    → sum_of_packets n f (whole s) ≡ sum_of_packets n f (λ x. (s.notes x).sent)
all_come n s r quiet f =
    sum_same n.frame.channels (λ x. sum_by f ((s.notes x).begun ++ (s.notes x).parcels)) (λ x. sum_by f (whole s x)) (λ x l.
    (let q = quiet x l in
    ap (λ a. sum_by f (whole_of a (s.notes x).begun)) q.awaited
    ∙ ap (sum_by f) (sym (append-nil (s.notes x).begun) ∙ ap (λ (ks : List Parcel). (s.notes x).begun ++ ks) (sym q.parcels))))
    ∙ r.all f

module _ (n : AdaptiveNet) (net : IsAdaptiveNet n) (s : NetState) (w : Words n.frame s) (tracks : HasTracks n s) (r : AreSent n s) where
  -- what a receiver takes
  pub takes : (x flit : ℕ) (more : List ℕ) (bit : Bool) → CanAccept n.frame (s.lines x) x flit more bit → Takes n.frame s x flit (note_of bit (s.notes x))
  takes x flit more bit c = takes_sent n.frame s x flit more bit w (record {
    here = λ k on. (
      sym (net.arrives k.destination x (all_on (λ k. Comes n k.destination x) (s.notes x).parcels k (tracks.are.comes x) on) c.ejects),
      all_on (λ k. IsOn k (s.notes k.source).sent) (s.notes x).parcels k (r.under_way x) on,
    );
    begun = λ k on. all_on (WasSentTo n.frame s x) (s.notes x).begun k (r.begun x) on;
  }) c

  accept_changes : (x flit : ℕ) (more : List ℕ) (bit : Bool)
      → IsChangedAt s (after n.frame s (accept bit x flit more)) x (accepted n.frame flit more (s.lines x)) (note_of bit (s.notes x))
  accept_changes x flit more true = changed s x (accepted n.frame flit more (s.lines x)) (note_of true (s.notes x))
  accept_changes x flit more false = changed s x (accepted n.frame flit more (s.lines x)) (note_of false (s.notes x))

  nothing : (rest : List ℕ) → true ≡ has_no_flit rest → rest ≡ []
  nothing [] e = refl
  nothing (f ∷ fs) e = cc

  -- with a tail flit a packet is whole
  pub arrives : (x flit : ℕ) (more : List ℕ) (bit : Bool) → CanAccept n.frame (s.lines x) x flit more bit → n.frame.is_tail flit ≡ true
      → arrivals.BecomesWhole n s (after n.frame s (accept bit x flit more)) x flit
  arrives x flit more bit c tail =
      let t : NetState = after n.frame s (accept bit x flit more) in
      let ch = accept_changes x flit more bit in
      let k = takes x flit more bit c in
      let p : Parcel = k.taken.packet in
      let none : k.taken.rest ≡ [] = nothing k.taken.rest (sym tail ∙ k.taken.tail) in
      record {
        packet = p;
        parcel = k.taken.parcel;
        destination = k.taken.destination;
        sent = k.taken.sent;
        flits = k.taken.flits ∙ ap (λ (fs : List ℕ). (s.lines x).so_far ++ flit ∷ fs) none;
        more = ap (λ (h : Note). whole_of h.awaited h.begun) ch.note ∙ (k.more ∙ ap (λ (b : Bool). whole s x ++ cond b (p ∷ []) []) tail);
        others = λ z f. ap (λ (h : Note). whole_of h.awaited h.begun) (ch.notes z f);
      }

  -- with any other flit none is
  pub none_arrives : (x flit : ℕ) (more : List ℕ) (bit : Bool) → CanAccept n.frame (s.lines x) x flit more bit → n.frame.is_tail flit ≡ false
      → StayWhole n.frame s (after n.frame s (accept bit x flit more))
  none_arrives x flit more bit c body = λ z ejects.
      (let k = takes x flit more bit c in
      kept (λ z l h. whole_of h.awaited h.begun ≡ whole s z) s (after n.frame s (accept bit x flit more)) x (accepted n.frame flit more (s.lines x))
      (note_of bit (s.notes x)) (accept_changes x flit more bit)
      (k.more ∙ (ap (λ (b : Bool). whole s x ++ cond b (k.taken.packet ∷ []) []) body ∙ append-nil (whole s x)))
      (λ z d. refl)
      z)
