-- What a receiver takes: the next flit of a packet that was sent to it.
use Rattle.std.proofs.Common.{◌≡◌, ⊎_elim, ℕ, Bool, true, false, cond, List, [], ◌∷◌, ◌++◌, take, drop, refl}
use Rattle.std.proofs.Common.{sym, ◌∙◌, ap, ap₂, subst, append-nil}
use Rattle.wormhole.specs.Net.{Net, IsNet, IsOn, Parcel, IsParcel, EndsWithTail, has_no_flit}
use Rattle.wormhole.specs.State.{NetLine, Note, NetState}
use Rattle.wormhole.specs.Events.{CanAccept, first_tail, popped}
use Rattle.wormhole.specs.Words.{HasBeginning, Words}
use Rattle.wormhole.specs.Routes.{IsBegunHere, Routes}
use Rattle.wormhole.specs.Delivery.{without_last, whole_of, whole, FlitIsTaken, WasSentTo}
use Rattle.wormhole.proofs.Channels.{pop_rest}
use Rattle.wormhole.proofs.Receivers.{moved, ejected, nothing_so_far}
use Rattle.wormhole.proofs.Lists.{all_on}
use Rattle.wormhole.proofs.Arrivals.{was_sent, begun_was_sent}

pub without_last_push : (ks : List Parcel) (k : Parcel) → without_last (ks ++ k ∷ []) ≡ ks
without_last_push [] k = refl
without_last_push (j ∷ []) k = refl
without_last_push (j ∷ l ∷ ks) k = ap (λ (ms : List Parcel). j ∷ ms) (without_last_push (l ∷ ks) k)

-- what is whole, of packets of which the last awaits some flits
whole_push : (tail : List ℕ) (begun : List Parcel) (k : Parcel) (bit : Bool) → bit ≡ has_no_flit tail
    → whole_of tail (begun ++ k ∷ []) ≡ begun ++ cond bit (k ∷ []) []
whole_push [] begun k true e = refl
whole_push [] begun k false e = cc
whole_push (f ∷ fs) begun k true e = cc
whole_push (f ∷ fs) begun k false e = without_last_push begun k ∙ sym (append-nil begun)

-- the note of a channel of which its receiver took a flit, with the head bit or without
abbrev pub note_of : Bool → Note → Note
note_of true h = record (popped h) { begun = h.begun ++ take 1 h.parcels }
note_of false h = record h { awaited = drop 1 h.awaited }

-- a taken flit, and what is whole with it
pub record Takes (n : Net) (s : NetState) (x flit : ℕ) (k : Note) : Type 0 where
  pub taken : FlitIsTaken n s x flit
  pub more : whole_of k.awaited k.begun ≡ whole s x ++ cond (n.is_tail flit) (taken.packet ∷ []) []

-- the packets in an ejection channel, and those begun there, were sent to it
pub record WereSentTo (n : Net) (s : NetState) (x : ℕ) : Type 0 where
  pub here : (k : Parcel) → IsOn k (s.notes x).parcels → (k.destination ≡ x) × IsOn k (s.notes k.source).sent
  pub begun : (k : Parcel) → IsOn k (s.notes x).begun → WasSentTo n s x k

pub takes_sent : (n : Net) (s : NetState) (x flit : ℕ) (more : List ℕ) (bit : Bool) → Words n s → WereSentTo n s x
    → CanAccept n (s.lines x) x flit more bit → Takes n s x flit (note_of bit (s.notes x))
takes_sent n s x flit more true w r c =
    let l : NetLine = s.lines x in
    let h : Note = s.notes x in
    let m = moved n h flit (more ++ h.owed) (w.parcels x) (w.awaited x) c.head (ejected n s x flit more true w c) in
    let k : Parcel = m.first in
    let here : IsOn k h.parcels = ([], drop 1 h.parcels, m.was) in
    let was = r.here k here in
    let bit : n.is_tail flit ≡ has_no_flit (first_tail h.parcels) = ap n.is_tail (sym m.head) ∙ (m.parcel.alone ∙ ap has_no_flit (sym m.tail)) in
    record {
      taken = record {
        packet = k;
        rest = k.tail;
        parcel = m.parcel;
        destination = was.0;
        sent = was.1;
        flits = ap (λ (f : ℕ). f ∷ k.tail) m.head
            ∙ ap (λ (fs : List ℕ). fs ++ flit ∷ k.tail) (sym (nothing_so_far l h (w.assembling x c.ejects) m.none));
        tail = ap n.is_tail (sym m.head) ∙ m.parcel.alone;
      };
      more = ap (λ (ks : List Parcel). whole_of (first_tail h.parcels) (h.begun ++ ks)) m.one
          ∙ (whole_push (first_tail h.parcels) h.begun k (n.is_tail flit) bit
          ∙ ap (λ (fs : List ℕ). whole_of fs h.begun ++ cond (n.is_tail flit) (k ∷ []) []) (sym m.none));
    }
takes_sent n s x flit more false w r c =
    let l : NetLine = s.lines x in
    let h : Note = s.notes x in
    let p = pop_rest n h.awaited h.parcels flit (more ++ h.owed) (w.parcels x) c.head (ejected n s x flit more false w c) in
    let e : drop 1 h.awaited ≡ p.0 = ap (λ (fs : List ℕ). drop 1 fs) p.1 in
    let shaped : EndsWithTail n (flit ∷ p.0) = subst (EndsWithTail n) p.1 (w.awaited x) in
    ⊎_elim
    (λ (none : (h.awaited ≡ []) × (l.so_far ≡ [])). let z = none.0 in let f = p.1 in cc)
    (λ (q : HasBeginning l h).
    let here : IsOn q.1 h.begun = (q.0, [], q.2) in
    let begun = r.begun q.1 here in
    let old : whole_of h.awaited h.begun ≡ q.0 =
    ap₂ (λ (fs : List ℕ) (ks : List Parcel). whole_of fs ks) p.1 q.2 ∙ without_last_push q.0 q.1 in
    record {
      taken = record {
        packet = q.1;
        rest = p.0;
        parcel = begun.parcel;
        destination = begun.destination;
        sent = begun.sent;
        flits = sym q.3 ∙ ap (λ (fs : List ℕ). l.so_far ++ fs) p.1;
        tail = shaped.1;
      };
      more = ap₂ (λ (fs : List ℕ) (ks : List Parcel). whole_of fs ks) e q.2
          ∙ (whole_push p.0 q.0 q.1 (n.is_tail flit) shaped.1 ∙ ap (λ (ks : List Parcel). ks ++ cond (n.is_tail flit) (q.1 ∷ []) []) (sym old));
    })
    (w.assembling x c.ejects)

pub takes : (n : Net) (s : NetState) (x flit : ℕ) (more : List ℕ) (bit : Bool) → IsNet n → Words n s → Routes n s
    → CanAccept n (s.lines x) x flit more bit → Takes n s x flit (note_of bit (s.notes x))
takes n s x flit more bit net w r c = takes_sent n s x flit more bit w (record {
  here = λ k here.
      (let is = all_on (IsParcel n) (s.notes x).parcels k (w.parcels x) here in
      let way : IsOn x (n.route k.source k.destination) =
      all_on (λ (k : Parcel). IsOn x (n.route k.source k.destination)) (s.notes x).parcels k (r.on_route x) here in
      (sym (net.ejects k.source k.destination x is.joined way c.ejects), was_sent n s x k w r here));
  begun = λ k here.
      (let is = all_on (IsBegunHere n x) (s.notes x).begun k (r.begun x) here in
      record { parcel = is.parcel; destination = is.destination; sent = begun_was_sent n s x k r here });
}) c

-- no flit is refused
pub is_taken : (n : Net) (s : NetState) (x flit : ℕ) (more : List ℕ) (bit : Bool) → IsNet n → Words n s → Routes n s
    → CanAccept n (s.lines x) x flit more bit → FlitIsTaken n s x flit
is_taken n s x flit more bit net w r c = (takes n s x flit more bit net w r c).taken
