-- What each event does to what the network owes.
use Rattle.std.proofs.Common.{◌≡◌, ◌≢◌, ℕ, ◌+◌, ◌*◌, ◌-◌, ◌<◌, suc, List, [], ◌∷◌, ◌++◌, length, take, drop, Some, None, sym, ap, ◌∙◌, refl, arith}
use Rattle.std.proofs.Common.{length-append}
use Rattle.std.proofs.lemmas.List.Sums.{sum_by_push, sum_by-cons}
use Rattle.std.proofs.Math.Nat.{mul-suc}
use Rattle.std.specs.List.{sum_by}
use Rattle.wormhole.specs.Net.{Net, IsNet, Parcel, net_flits}
use Rattle.wormhole.specs.State.{NetLine, Note, NetState, update}
use Rattle.wormhole.specs.Words.{Words}
use Rattle.wormhole.specs.Routes.{Routes}
use Rattle.wormhole.specs.Events.{NetEvent, InjectHead, InjectRest, Latch, ForwardHead, ForwardRest, AcceptHead, AcceptRest, Return, put, taken, forwarded}
use Rattle.wormhole.specs.Events.{accepted, after, CanHappen, first_tail}
use Rattle.wormhole.proofs.Changes.{update_same, update_other, IsChangedAt, AreChangedAt}
use Rattle.wormhole.specs.Weight.{beyond, weight_onward, weight_at, weight, promised}
use Rattle.wormhole.proofs.Sums.{sum_one, sum_two}
use Rattle.wormhole.proofs.Beyond.{last_on, first_on}
use Rattle.wormhole.proofs.Heads.{in_line_is, heads, goes_on, leads}

-- what a channel and its notes owe
abbrev owes : Net → NetState → ℕ → ℕ
owes n s x = weight_at n x (s.lines x) (s.notes x)

-- one channel changes
one_changes : (n : Net) (s t : NetState) (x c : ℕ) (l : NetLine) (k : Note) → x < n.channels → IsChangedAt s t x l k
    → weight_at n x l k + 1 ≡ owes n s x + c → weight n t + 1 ≡ weight n s + c
one_changes n s t x c l k within change local =
    let same : (z : ℕ) → z < n.channels → z ≢ x → owes n t z ≡ owes n s z = λ z inner other.
    ap (λ m. weight_at n z m (t.notes z)) (change.lines z other) ∙ ap (λ h. weight_at n z (s.lines z) h) (change.notes z other) in
    let here : owes n t x ≡ weight_at n x l k = ap (λ m. weight_at n x m (t.notes x)) change.line ∙ ap (λ h. weight_at n x l h) change.note in
    let sums : weight n t + owes n s x ≡ weight n s + owes n t x = sum_one n.channels x (owes n s) (owes n t) within same in
    omega arith

-- two channels change
two_change : (n : Net) (s t : NetState) (x y c : ℕ) (l : NetLine) (k : Note) (m : NetLine) (h : Note) → x < n.channels → y < n.channels → x ≢ y
    → AreChangedAt s t x l k y m h
    → weight_at n x l k + weight_at n y m h + 1 ≡ owes n s x + owes n s y + c → weight n t + 1 ≡ weight n s + c
two_change n s t x y c l k m h hx hy apart change local =
    let same : (z : ℕ) → z < n.channels → z ≢ x → z ≢ y → owes n t z ≡ owes n s z = λ z inner other more.
    ap (λ m. weight_at n z m (t.notes z)) (change.lines z other more) ∙ ap (λ h. weight_at n z (s.lines z) h) (change.notes z other more) in
    let here : owes n t x ≡ weight_at n x l k = ap (λ m. weight_at n x m (t.notes x)) change.line ∙ ap (λ h. weight_at n x l h) change.note in
    let there : owes n t y ≡ weight_at n y m h = ap (λ l. weight_at n y l (t.notes y)) change.line_too ∙ ap (λ k. weight_at n y m k) change.note_too in
    let sums : weight n t + owes n s x + owes n s y ≡ weight n s + owes n t x + owes n t y = sum_two n.channels x y (owes n s) (owes n t) hx hy apart same in
    omega arith

-- the states after an update
updated : (s : NetState) (x : ℕ) (l : NetLine) (k : Note) → IsChangedAt s (record { lines = update s.lines x l; notes = update s.notes x k }) x l k
updated s x l k = record { line = update_same s.lines x l; note = update_same s.notes x k; lines = update_other s.lines x l; notes = update_other s.notes x k }

line_updated : (s : NetState) (x : ℕ) (l : NetLine) → IsChangedAt s (record { lines = update s.lines x l; notes = s.notes }) x l (s.notes x)
line_updated s x l = record { line = update_same s.lines x l; note = refl; lines = update_other s.lines x l; notes = λ z h. refl }

both_updated : (s : NetState) (x y : ℕ) (l : NetLine) (k : Note) (m : NetLine) (h : Note) → x ≢ y
    → AreChangedAt s (record { lines = update (update s.lines x l) y m; notes = update (update s.notes x k) y h }) x l k y m h
both_updated s x y l k m h apart = record {
  line = update_other (update s.lines x l) y m x apart ∙ update_same s.lines x l;
  note = update_other (update s.notes x k) y h x apart ∙ update_same s.notes x k;
  line_too = update_same (update s.lines x l) y m;
  note_too = update_same (update s.notes x k) y h;
  lines = λ z dx dy. update_other (update s.lines x l) y m z dy ∙ update_other s.lines x l z dx;
  notes = λ z dx dy. update_other (update s.notes x k) y h z dy ∙ update_other s.notes x k z dx;
}

-- what a packet owes, at a channel and at the next
onward_next : (n : Net) (x y : ℕ) (p : Parcel) → beyond x (n.route p.source p.destination) ≡ suc (beyond y (n.route p.source p.destination))
    → weight_onward n x p ≡ weight_onward n y p + length (net_flits p)
onward_next n x y p fewer = ap (λ b. length (net_flits p) * b) fewer ∙ mul-suc (length (net_flits p)) (beyond y (n.route p.source p.destination))

module _ (n : Net) (x : ℕ) where
  -- a packet's head is put into its injection channel
  inject_head : (l : NetLine) (k : Note) (p : Parcel) → k.owed ≡ [] → suc (beyond x (n.route p.source p.destination)) ≡ length (n.route p.source p.destination)
      → weight_at n x (record (put p.head l) { rest = p.tail }) (record k { parcels = k.parcels ++ p ∷ []; owed = p.tail; sent = k.sent ++ p ∷ [] }) + 1
      ≡ weight_at n x l k + 3 * (length (net_flits p) * length (n.route p.source p.destination))
  inject_head l k p none first =
      let b : ℕ = beyond x (n.route p.source p.destination) in
      let m : ℕ = length (net_flits p) in
      let owed = ap length none in
      let size = length-append l.flits (p.head ∷ []) in
      let sum = sum_by_push (weight_onward n x) k.parcels p in
      let whole : m * length (n.route p.source p.destination) ≡ m * suc b = ap (λ z. m * z) (sym first) in
      let split = mul-suc m b in
      omega arith

  -- a further flit is put into a channel
  put_rest : (l : NetLine) (k : Note) (f : ℕ) (more : List ℕ) → k.owed ≡ f ∷ more
      → weight_at n x (put f l) (record k { owed = drop 1 k.owed }) + 1 ≡ weight_at n x l k + 0
  put_rest l k f more owed =
      let size = ap length owed in
      let dropped : length (drop 1 k.owed) ≡ length more = ap (λ o. length (drop 1 o)) owed in
      let longer = length-append l.flits (f ∷ []) in
      omega arith

  -- a channel's first flit is taken
  take_one : (l : NetLine) (k : Note) (f : ℕ) (more : List ℕ) → l.flits ≡ f ∷ more → weight_at n x (taken more l) k + 1 ≡ weight_at n x l k + 0
  take_one l k f more first = let size = ap length first in omega arith

  -- a head is taken at the last channel of its route
  take_last : (l : NetLine) (k : Note) (f : ℕ) (more : List ℕ) (p : Parcel) (ps : List Parcel) → l.flits ≡ f ∷ more → k.parcels ≡ p ∷ ps
      → beyond x (n.route p.source p.destination) ≡ 0
      → weight_at n x (taken more l) (record k { parcels = drop 1 k.parcels }) + 1 ≡ weight_at n x l k + 0
  take_last l k f more p ps first parcels last =
      let size = ap length first in
      let sum : sum_by (weight_onward n x) k.parcels ≡ weight_onward n x p + sum_by (weight_onward n x) ps = ap (sum_by (weight_onward n x)) parcels ∙ sum_by-cons (weight_onward n x) p ps in
      let dropped : sum_by (weight_onward n x) (drop 1 k.parcels) ≡ sum_by (weight_onward n x) ps = ap (λ qs. sum_by (weight_onward n x) (drop 1 qs)) parcels in
      let none : weight_onward n x p ≡ length (net_flits p) * 0 = ap (λ b. length (net_flits p) * b) last in
      omega arith

  -- a credit comes back
  credit_back : (l : NetLine) (k : Note) → 0 < l.returning
      → weight_at n x (record l { held = l.held + 1; returning = l.returning - 1 }) k + 1 ≡ weight_at n x l k + 0
  credit_back l k some = omega arith

-- a head goes on from x to y
forward_head : (n : Net) (x y f : ℕ) (l m : NetLine) (k h : Note) (p : Parcel) (ps : List Parcel) → k.parcels ≡ p ∷ ps → h.owed ≡ []
    → beyond x (n.route p.source p.destination) ≡ suc (beyond y (n.route p.source p.destination))
    → weight_at n x (record l { latch = None }) (record k { parcels = drop 1 k.parcels; awaited = first_tail k.parcels })
    + weight_at n y (forwarded n x f m) (record h { parcels = h.parcels ++ take 1 k.parcels; owed = first_tail k.parcels }) + 1
    ≡ weight_at n x l k + weight_at n y m h + 0
forward_head n x y f l m k h p ps parcels none fewer =
    let owed = ap length none in
    let size = length-append m.flits (f ∷ []) in
    let before : sum_by (weight_onward n x) k.parcels ≡ weight_onward n x p + sum_by (weight_onward n x) ps = ap (sum_by (weight_onward n x)) parcels ∙ sum_by-cons (weight_onward n x) p ps in
    let dropped : sum_by (weight_onward n x) (drop 1 k.parcels) ≡ sum_by (weight_onward n x) ps = ap (λ qs. sum_by (weight_onward n x) (drop 1 qs)) parcels in
    let tail : length (first_tail k.parcels) ≡ length p.tail = ap (λ qs. length (first_tail qs)) parcels in
    let moved : sum_by (weight_onward n y) (h.parcels ++ take 1 k.parcels) ≡ sum_by (weight_onward n y) (h.parcels ++ p ∷ []) =
    ap (λ qs. sum_by (weight_onward n y) (h.parcels ++ take 1 qs)) parcels in
    let new = sum_by_push (weight_onward n y) h.parcels p in
    let next = onward_next n x y p fewer in
    omega arith

-- a further flit goes on from x to y
forward_rest : (n : Net) (x y f : ℕ) (l m : NetLine) (k h : Note) (more : List ℕ) → h.owed ≡ f ∷ more
    → weight_at n x (record l { latch = None }) (record k { awaited = drop 1 k.awaited })
    + weight_at n y (forwarded n x f m) (record h { owed = drop 1 h.owed }) + 1
    ≡ weight_at n x l k + weight_at n y m h + 0
forward_rest n x y f l m k h more owed =
    let one : weight_at n y (put f m) (record h { owed = drop 1 h.owed }) + 1 ≡ weight_at n y m h + 0 = put_rest n y m h f more owed in
    omega arith

module _ (n : Net) (s : NetState) (net : IsNet n) (words : Words n s) (routes : Routes n s) where
  apart_by : (x y : ℕ) → n.number x < n.number y → x ≢ y
  apart_by x y rises e = let same = ap n.number e in omega arith

  -- each event makes one of the moves that are owed, and promises those of a new packet
  pub one_less : (e : NetEvent) → CanHappen n s.lines e → weight n (after n s e) + 1 ≡ weight n s + promised n e
  one_less (InjectHead x k) may =
      let l : NetLine = record (put k.head (s.lines x)) { rest = k.tail } in
      let h : Note = record (s.notes x) { parcels = (s.notes x).parcels ++ k ∷ []; owed = k.tail; sent = (s.notes x).sent ++ k ∷ [] } in
      let first : suc (beyond x (n.route k.source k.destination)) ≡ length (n.route k.source k.destination) =
      ap (λ z. suc (beyond z (n.route k.source k.destination))) (sym may.source) ∙ first_on n net k.source k.destination may.parcel.joined in
      one_changes n s (after n s (InjectHead x k)) x (promised n (InjectHead x k)) l h may.here (updated s x l h)
      (inject_head n x (s.lines x) (s.notes x) k (words.senders x may.injects ∙ may.idle) first)
  one_less (InjectRest x f more) may =
      let l : NetLine = record (put f (s.lines x)) { rest = more } in
      let h : Note = record (s.notes x) { owed = more } in
      let owed : (s.notes x).owed ≡ f ∷ more = words.senders x may.injects ∙ may.course in
      one_changes n s (after n s (InjectRest x f more)) x 0 l h may.here (updated s x l h)
      (ap (λ o. weight_at n x (put f (s.lines x)) (record (s.notes x) { owed = o }) + 1) (sym (ap (drop 1) owed))
      ∙ put_rest n x (s.lines x) (s.notes x) f more owed)
  one_less (Latch x f more) may =
      let l : NetLine = record (taken more (s.lines x)) { latch = Some f } in
      one_changes n s (after n s (Latch x f more)) x 0 l (s.notes x) may.here (line_updated s x l) (take_one n x (s.lines x) (s.notes x) f more may.first)
  one_less (ForwardHead x y f) may =
      let at = heads n s words routes x f (s.lines x).flits may.head (in_line_is s x (Some f) (s.lines x).flits may.full refl) in
      let on = leads n s words net x y f may.input at may.output in
      let l : NetLine = record (s.lines x) { latch = None } in
      let k : Note = record (s.notes x) { parcels = drop 1 (s.notes x).parcels; awaited = first_tail (s.notes x).parcels } in
      let m : NetLine = forwarded n x f (s.lines y) in
      let h : Note = record (s.notes y) { parcels = (s.notes y).parcels ++ take 1 (s.notes x).parcels; owed = first_tail (s.notes x).parcels } in
      two_change n s (after n s (ForwardHead x y f)) x y 0 l k m h may.here on.within (apart_by x y on.rises)
      (both_updated s x y l k m h (apart_by x y on.rises))
      (forward_head n x y f (s.lines x) (s.lines y) (s.notes x) (s.notes y) at.parcel at.others at.parcels (words.free y on.not_injection may.free) on.fewer)
  one_less (ForwardRest x y f) may =
      let rest = goes_on n s words x f (s.lines x).flits may.rest (in_line_is s x (Some f) (s.lines x).flits may.full refl) in
      let held = words.held x y may.owned in
      let rises = routes.rising x y may.owned in
      let l : NetLine = record (s.lines x) { latch = None } in
      let k : Note = record (s.notes x) { awaited = drop 1 (s.notes x).awaited } in
      let m : NetLine = forwarded n x f (s.lines y) in
      let h : Note = record (s.notes y) { owed = drop 1 (s.notes y).owed } in
      two_change n s (after n s (ForwardRest x y f)) x y 0 l k m h may.here (words.inside.owned x y may.owned) (apart_by x y rises)
      (both_updated s x y l k m h (apart_by x y rises))
      (forward_rest n x y f (s.lines x) (s.lines y) (s.notes x) (s.notes y) rest.0 (held.same ∙ rest.1))
  one_less (AcceptHead x f more) may =
      let at = heads n s words routes x f more may.head (in_line_is s x None (f ∷ more) (words.unlatched x may.ejects) may.first) in
      let l : NetLine = accepted n f more (s.lines x) in
      let h : Note = record (s.notes x)
      { parcels = drop 1 (s.notes x).parcels; awaited = first_tail (s.notes x).parcels; begun = (s.notes x).begun ++ take 1 (s.notes x).parcels } in
      one_changes n s (after n s (AcceptHead x f more)) x 0 l h may.here (updated s x l h)
      (take_last n x (s.lines x) (s.notes x) f more at.parcel at.others may.first at.parcels
      (last_on n net at.parcel.source at.parcel.destination at.is.joined x may.ejects at.on))
  one_less (AcceptRest x f more) may =
      let l : NetLine = accepted n f more (s.lines x) in
      let h : Note = record (s.notes x) { awaited = drop 1 (s.notes x).awaited } in
      one_changes n s (after n s (AcceptRest x f more)) x 0 l h may.here (updated s x l h) (take_one n x (s.lines x) (s.notes x) f more may.first)
  one_less (Return x) may =
      let l : NetLine = record (s.lines x) { held = (s.lines x).held + 1; returning = (s.lines x).returning - 1 } in
      one_changes n s (after n s (Return x)) x 0 l (s.notes x) may.here (line_updated s x l) (credit_back n x (s.lines x) (s.notes x) may.returns)
