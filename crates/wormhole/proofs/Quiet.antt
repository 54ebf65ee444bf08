-- What holds of the packets in the channels stays when no head flit goes from one channel to another.
use Rattle.std.proofs.Common.{◌≡◌, ◌≢◌, ℕ, ◌<◌, Bool, true, false, cond, List, ◌++◌, Some, None, All, refl, sym, ◌∙◌}
use Rattle.std.proofs.Common.{ap, subst, drop, ◌+◌, ◌-◌}
use Rattle.wormhole.specs.Net.{Net, IsOn, Parcel}
use Rattle.wormhole.specs.State.{NetLine, Note, NetState}
use Rattle.wormhole.specs.Events.{InjectRest, Latch, ForwardRest, AcceptRest, Return, put, taken, accepted, forwarded, after}
use Rattle.wormhole.specs.Routes.{between, on_the_way, IsFlow, IsSentHere, IsBegunHere, Routes}
use Rattle.wormhole.proofs.Changes.{IsChangedAt, AreChangedAt, kept, kept_both, changed, changed_line, changed_both}
use Rattle.wormhole.proofs.Flows.{way_same}

-- two notes have equal packets: under way, sent and begun
pub record IsQuiet (k h : Note) : Type 0 where
  pub parcels : k.parcels ≡ h.parcels
  pub sent : k.sent ≡ h.sent
  pub begun : k.begun ≡ h.begun

-- these ends see the same packets
pub record SeesSame (i j : ℕ) (k h : Note) : Type 0 where
  pub parcels : between i j k.parcels ≡ between i j h.parcels
  pub sent : between i j k.sent ≡ between i j h.sent
  pub begun : between i j k.begun ≡ between i j h.begun

pub flow_same : (n : Net) (s t : NetState) (i j : ℕ) → ((z : ℕ) → SeesSame i j (t.notes z) (s.notes z)) → IsFlow n s i j → IsFlow n t i j
flow_same n s t i j same flow =
    ap (λ (ks : List Parcel). ks ++ on_the_way i j (λ x. (t.notes x).parcels) (n.route i j)) (same j).begun
    ∙ (ap (λ (ks : List Parcel). between i j (s.notes j).begun ++ ks)
    (way_same i j (λ x. (s.notes x).parcels) (λ x. (t.notes x).parcels) (n.route i j) (λ z on. (same z).parcels))
    ∙ (flow ∙ sym (same i).sent))

-- an owner in the new state was one in the old
pub routes_quiet : (n : Net) (s t : NetState) → Routes n s → ((z : ℕ) → IsQuiet (t.notes z) (s.notes z))
    → ((x y : ℕ) → (t.lines y).owner ≡ Some x → n.number x < n.number y) → Routes n t
routes_quiet n s t r same rising = record {
  on_route = λ z. subst (λ (ks : List Parcel). All (λ k. IsOn z (n.route k.source k.destination)) ks) (sym (same z).parcels) (r.on_route z);
  rising = rising;
  sent = λ z. subst (λ (ks : List Parcel). All (IsSentHere n z) ks) (sym (same z).sent) (r.sent z);
  begun = λ z. subst (λ (ks : List Parcel). All (IsBegunHere n z) ks) (sym (same z).begun) (r.begun z);
  flow = λ i j joined.
      flow_same n s t i j (λ z. record {
        parcels = ap (between i j) (same z).parcels;
        sent = ap (between i j) (same z).sent;
        begun = ap (between i j)
            (same z).begun;
      }) (r.flow i j joined);
}

-- the numbers of owners stay, where no owner changes
pub rising_one : (n : Net) (s t : NetState) (x : ℕ) (l : NetLine) (k : Note) → Routes n s → IsChangedAt s t x l k → l.owner ≡ (s.lines x).owner
    → (a b : ℕ) → (t.lines b).owner ≡ Some a → n.number a < n.number b
rising_one n s t x l k r c owner a b h =
    r.rising a b (sym (kept (λ z l k. l.owner ≡ (s.lines z).owner) s t x l k c owner (λ z d. refl) b) ∙ h)

-- the numbers of owners stay, where an input comes to own an output of a greater number
pub rising_two : (n : Net) (s t : NetState) (x : ℕ) (l : NetLine) (k : Note) (y : ℕ) (m : NetLine) (h : Note) → Routes n s
    → AreChangedAt s t x l k y m h → l.owner ≡ (s.lines x).owner
    → ((a : ℕ) → m.owner ≡ Some a → n.number a < n.number y) → (a b : ℕ) → (t.lines b).owner ≡ Some a → n.number a < n.number b
rising_two n s t x l k y m h r c owner new a b =
    kept_both (λ z l k. l.owner ≡ Some a → n.number a < n.number z) s t x l k y m h c (λ e. r.rising a x (sym owner ∙ e)) (λ e. new a e)
    (λ z d g e. r.rising a z e) b

-- who owns an output after a flit is who put it
pub forwarded_owner : (a x : ℕ) (bit : Bool) → cond bit None (Some x) ≡ Some a → a ≡ x
forwarded_owner a x true h = cc
forwarded_owner a x false h = cc

pub routes_one : (n : Net) (s t : NetState) (x : ℕ) (l : NetLine) (k : Note) → Routes n s → IsChangedAt s t x l k → IsQuiet k (s.notes x)
    → l.owner ≡ (s.lines x).owner → Routes n t
routes_one n s t x l k r c quiet owner =
    routes_quiet n s t r (λ z. kept (λ z l k. IsQuiet k (s.notes z)) s t x l k c quiet
    (λ z d. record { parcels = refl; sent = refl; begun = refl }) z) (rising_one n s t x l k r c owner)

pub routes_inject_rest : (n : Net) (s : NetState) (x flit : ℕ) (more : List ℕ) → Routes n s → Routes n (after n s (InjectRest x flit more))
routes_inject_rest n s x flit more r =
    let l : NetLine = record (put flit (s.lines x)) { rest = more } in
    let k : Note = record (s.notes x) { owed = more } in
    routes_one n s (after n s (InjectRest x flit more)) x l k r (changed s x l k) (record { parcels = refl; sent = refl; begun = refl }) refl

pub routes_latch : (n : Net) (s : NetState) (x flit : ℕ) (more : List ℕ) → Routes n s → Routes n (after n s (Latch x flit more))
routes_latch n s x flit more r =
    let l : NetLine = record (taken more (s.lines x)) { latch = Some flit } in
    routes_one n s (after n s (Latch x flit more)) x l (s.notes x) r (changed_line s x l) (record { parcels = refl; sent = refl; begun = refl }) refl

pub routes_accept_rest : (n : Net) (s : NetState) (x flit : ℕ) (more : List ℕ) → Routes n s → Routes n (after n s (AcceptRest x flit more))
routes_accept_rest n s x flit more r =
    let l : NetLine = accepted n flit more (s.lines x) in
    let k : Note = record (s.notes x) { awaited = drop 1 (s.notes x).awaited } in
    routes_one n s (after n s (AcceptRest x flit more)) x l k r (changed s x l k) (record { parcels = refl; sent = refl; begun = refl }) refl

pub routes_return : (n : Net) (s : NetState) (x : ℕ) → Routes n s → Routes n (after n s (Return x))
routes_return n s x r =
    let l : NetLine = record (s.lines x) { held = (s.lines x).held + 1; returning = (s.lines x).returning - 1 } in
    routes_one n s (after n s (Return x)) x l (s.notes x) r (changed_line s x l) (record { parcels = refl; sent = refl; begun = refl }) refl

pub routes_forward_rest : (n : Net) (s : NetState) (x y flit : ℕ) → x ≢ y → Routes n s → (s.lines y).owner ≡ Some x
    → Routes n (after n s (ForwardRest x y flit))
routes_forward_rest n s x y flit apart r owned =
    let t : NetState = after n s (ForwardRest x y flit) in
    let l : NetLine = record (s.lines x) { latch = None } in
    let k : Note = record (s.notes x) { awaited = drop 1 (s.notes x).awaited } in
    let m : NetLine = forwarded n x flit (s.lines y) in
    let h : Note = record (s.notes y) { owed = drop 1 (s.notes y).owed } in
    let c = changed_both s x l k y m h apart in
    routes_quiet n s t r
    (λ z. kept_both (λ z l k. IsQuiet k (s.notes z)) s t x l k y m h c (record { parcels = refl; sent = refl; begun = refl })
    (record { parcels = refl; sent = refl; begun = refl })
    (λ z d e. record { parcels = refl; sent = refl; begun = refl }) z)
    (rising_two n s t x l k y m h r c refl (λ a e. subst (λ (b : ℕ). n.number b < n.number y) (sym (forwarded_owner a x (n.is_tail flit) e))
    (r.rising x y owned)))
