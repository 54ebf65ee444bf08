-- When a packet becomes whole.
use Rattle.std.proofs.Common.{◌≡◌, ℕ, Bool, true, false, cond, List, [], ◌∷◌, ◌++◌, take, drop, None, refl, sym, ◌∙◌}
use Rattle.std.proofs.Common.{ap, ap₂, subst, append-nil}
use Rattle.wormhole.specs.Net.{Net, IsNet, Parcel, has_no_flit}
use Rattle.wormhole.specs.State.{NetLine, Note, NetState}
use Rattle.wormhole.specs.Events.{NetEvent, InjectHead, InjectRest, Latch, ForwardHead, ForwardRest, AcceptHead}
use Rattle.wormhole.specs.Events.{AcceptRest, Return, CanAccept, CanHappen, put, accepted, forwarded, first_tail}
use Rattle.wormhole.specs.Events.{popped, after}
use Rattle.wormhole.specs.Words.{Words}
use Rattle.wormhole.specs.Routes.{between, Routes}
use Rattle.wormhole.specs.Delivery.{whole_of, whole, StayWhole, Arrives, IsAccept, accept}
use Rattle.wormhole.proofs.Changes.{IsChangedAt, AreChangedAt, kept, kept_both, changed, changed_both}
use Rattle.wormhole.proofs.Flows.{push_this}
use Rattle.wormhole.proofs.Ways.{apart_by_number}
use Rattle.wormhole.proofs.RouteSteps.{has_way}
use Rattle.wormhole.proofs.Arrivals.{delivered, sees_own}
use Rattle.wormhole.proofs.Takes.{note_of, takes}
use Rattle.wormhole.proofs.Reached.{routes_kept}

-- an accept changes one channel's note
accept_changes : (n : Net) (s : NetState) (x flit : ℕ) (more : List ℕ) (bit : Bool)
    → IsChangedAt s (after n s (accept bit x flit more)) x (accepted n flit more (s.lines x)) (note_of bit (s.notes x))
accept_changes n s x flit more true = changed s x (accepted n flit more (s.lines x)) (note_of true (s.notes x))
accept_changes n s x flit more false = changed s x (accepted n flit more (s.lines x)) (note_of false (s.notes x))

can_accept : (n : Net) (s : NetState) (x flit : ℕ) (more : List ℕ) (bit : Bool) → CanAccept n (s.lines x) x flit more bit
    → CanHappen n s.lines (accept bit x flit more)
can_accept n s x flit more true c = c
can_accept n s x flit more false c = c

-- packets stay whole, where the flits that receivers await and the packets that they began stay
whole_same : (k h : Note) → k.awaited ≡ h.awaited → k.begun ≡ h.begun → whole_of k.awaited k.begun ≡ whole_of h.awaited h.begun
whole_same k h e f = ap₂ (λ (fs : List ℕ) (ks : List Parcel). whole_of fs ks) e f

-- with a tail flit a packet is whole
pub arrives : (n : Net) (s : NetState) (x flit : ℕ) (more : List ℕ) (bit : Bool) → IsNet n → Words n s → Routes n s
    → CanAccept n (s.lines x) x flit more bit → n.is_tail flit ≡ true
    → Arrives n s (after n s (accept bit x flit more)) x flit
arrives n s x flit more bit net w r c tail =
    let e = accept bit x flit more in
    let t : NetState = after n s e in
    let ch = accept_changes n s x flit more bit in
    let k = takes n s x flit more bit net w r c in
    let p : Parcel = k.taken.packet in
    let none : k.taken.rest ≡ [] = nothing k.taken.rest (sym tail ∙ k.taken.tail) in
    let grown : whole t x ≡ whole s x ++ p ∷ [] =
    ap (λ (h : Note). whole_of h.awaited h.begun) ch.note ∙ (k.more ∙ ap (λ (b : Bool). whole s x ++ cond b (p ∷ []) []) tail) in
    let joined : n.joins p.source x ≡ true = subst (λ (j : ℕ). n.joins p.source j ≡ true) k.taken.destination k.taken.parcel.joined in
    let d = delivered n t p.source x (routes_kept n s e net w r (can_accept n s x flit more bit c)) joined in
    let own : between p.source x (p ∷ []) ≡ p ∷ [] =
    subst (λ (j : ℕ). between p.source j (p ∷ []) ≡ p ∷ []) k.taken.destination (sees_own p) in
    let sent : (z : ℕ) → (t.notes z).sent ≡ (s.notes z).sent =
    kept (λ z l h. h.sent ≡ (s.notes z).sent) s t x (accepted n flit more (s.lines x)) (note_of bit (s.notes x)) ch (sent_same bit (s.notes x)) (λ z f. refl) in
    record {
      packet = p;
      parcel = k.taken.parcel;
      destination = k.taken.destination;
      flits = k.taken.flits ∙ ap (λ (fs : List ℕ). (s.lines x).so_far ++ flit ∷ fs) none;
      more = grown;
      others = λ z f. ap (λ (h : Note). whole_of h.awaited h.begun) (ch.notes z f);
      turn = (
        d.0,
        ap (between p.source x) (sym (sent p.source))
            ∙ (d.1 ∙ ap (λ (ks : List Parcel). ks ++ d.0) (ap (between p.source x) grown ∙ push_this p.source x (whole s x) p own)),
      );
    }
  where
    nothing : (rest : List ℕ) → true ≡ has_no_flit rest → rest ≡ []
    nothing [] e = refl
    nothing (f ∷ fs) e = cc

    sent_same : (bit : Bool) (h : Note) → (note_of bit h).sent ≡ h.sent
    sent_same true h = refl
    sent_same false h = refl

-- with any other flit none is
pub none_arrives : (n : Net) (s : NetState) (x flit : ℕ) (more : List ℕ) (bit : Bool) → IsNet n → Words n s → Routes n s
    → CanAccept n (s.lines x) x flit more bit → n.is_tail flit ≡ false
    → StayWhole n s (after n s (accept bit x flit more))
none_arrives n s x flit more bit net w r c body = λ z ejects.
    let k = takes n s x flit more bit net w r c in
    kept (λ z l h. whole_of h.awaited h.begun ≡ whole s z) s (after n s (accept bit x flit more)) x (accepted n flit more (s.lines x))
    (note_of bit (s.notes x)) (accept_changes n s x flit more bit)
    (k.more ∙ (ap (λ (b : Bool). whole s x ++ cond b (k.taken.packet ∷ []) []) body ∙ append-nil (whole s x)))
    (λ z d. refl)
    z

-- an event that changes one channel's note, and not what is awaited or begun there
whole_one : (n : Net) (s t : NetState) (x : ℕ) (l : NetLine) (k : Note) → IsChangedAt s t x l k → k.awaited ≡ (s.notes x).awaited
    → k.begun ≡ (s.notes x).begun → StayWhole n s t
whole_one n s t x l k c e f =
    λ z ejects. kept (λ z l h. whole_of h.awaited h.begun ≡ whole s z) s t x l k c (whole_same k (s.notes x) e f) (λ z d. refl) z

-- a flit that a router puts
whole_two : (n : Net) (s t : NetState) (x : ℕ) (l : NetLine) (k : Note) (y : ℕ) (m : NetLine) (h : Note) → AreChangedAt s t x l k y m h
    → n.ejects x ≡ false → h.awaited ≡ (s.notes y).awaited → h.begun ≡ (s.notes y).begun
    → StayWhole n s t
whole_two n s t x l k y m h c input e f =
    kept_both (λ z l h. n.ejects z ≡ true → whole_of h.awaited h.begun ≡ whole s z) s t x l k y m h c (λ ejects. cc)
    (λ ejects. whole_same h (s.notes y) e f) (λ z d g ejects. refl)

-- no other event makes a packet whole
pub others_arrive_not : (n : Net) (s : NetState) (e : NetEvent) → IsNet n → Words n s → Routes n s → CanHappen n s.lines e → (IsAccept e → ⊥)
    → StayWhole n s (after n s e)
others_arrive_not n s (InjectHead x k) net w r c other =
    let l : NetLine = record (put k.head (s.lines x)) { rest = k.tail } in
    let h : Note = record (s.notes x) { parcels = (s.notes x).parcels ++ k ∷ []; owed = k.tail; sent = (s.notes x).sent ++ k ∷ [] } in
    whole_one n s (after n s (InjectHead x k)) x l h (changed s x l h) refl refl
others_arrive_not n s (InjectRest x flit more) net w r c other =
    let l : NetLine = record (put flit (s.lines x)) { rest = more } in
    let h : Note = record (s.notes x) { owed = more } in
    whole_one n s (after n s (InjectRest x flit more)) x l h (changed s x l h) refl refl
others_arrive_not n s (Latch x flit more) net w r c other = λ z ejects. refl
others_arrive_not n s (ForwardHead x y flit) net w r c other =
    let apart = (has_way n s x y flit net w r c).apart in
    let l : NetLine = record (s.lines x) { latch = None } in
    let m : NetLine = forwarded n x flit (s.lines y) in
    let h : Note =
    record (s.notes y) { parcels = (s.notes y).parcels ++ take 1 (s.notes x).parcels; owed = first_tail (s.notes x).parcels } in
    whole_two n s (after n s (ForwardHead x y flit)) x l (popped (s.notes x)) y m h (changed_both s x l (popped (s.notes x)) y m h apart) c.input refl refl
others_arrive_not n s (ForwardRest x y flit) net w r c other =
    let apart = apart_by_number n x y (r.rising x y c.owned) in
    let l : NetLine = record (s.lines x) { latch = None } in
    let k : Note = record (s.notes x) { awaited = drop 1 (s.notes x).awaited } in
    let m : NetLine = forwarded n x flit (s.lines y) in
    let h : Note = record (s.notes y) { owed = drop 1 (s.notes y).owed } in
    whole_two n s (after n s (ForwardRest x y flit)) x l k y m h (changed_both s x l k y m h apart) c.input refl refl
others_arrive_not n s (AcceptHead x flit more) net w r c other = absurd (other tt)
others_arrive_not n s (AcceptRest x flit more) net w r c other = absurd (other tt)
others_arrive_not n s (Return x) net w r c other = λ z ejects. refl
