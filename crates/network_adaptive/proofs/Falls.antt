-- What each event does to what the network owes.
use Rattle.std.proofs.Common.{◌≡◌, ◌≢◌, ℕ, ◌+◌, ◌*◌, ◌-◌, ◌<◌, ◌≤◌, zero, suc, true, List, [], ◌∷◌, ◌++◌, length, take, drop, Some, None, ap, ◌∙◌, refl, subst, arith}
use Rattle.std.proofs.Common.{length-append}
use Rattle.std.proofs.lemmas.List.Sums.{sum_by_push, sum_by-cons}
use Rattle.std.proofs.Math.Nat.{mul-suc, mul-le-mul_left}
use Rattle.std.specs.List.{sum_by}
use Rattle.wormhole.specs.Net.{Parcel, net_flits}
use Rattle.wormhole.specs.State.{NetLine, Note, NetState, empty, empty_line, empty_note}
use Rattle.wormhole.specs.Words.{Words}
use Rattle.wormhole.specs.Events.{NetEvent, InjectHead, InjectRest, Latch, ForwardHead, ForwardRest, AcceptHead, AcceptRest, Return, put, taken, forwarded}
use Rattle.wormhole.specs.Events.{accepted, after, after_all, first_tail}
use Rattle.wormhole.proofs.Changes.{IsChangedAt, AreChangedAt, changed, changed_line, changed_both}
use Rattle.wormhole.proofs.Receivers.{moved, ejected}
use Rattle.wormhole.proofs.Reached.{words_empty}
use Rattle.wormhole.specs.Weight.{sum_below}
use Rattle.wormhole.proofs.Sums.{sum_one, sum_two}
use Rattle.wormhole.proofs.Heads.{in_line_is, goes_on}
use Rattle.network_adaptive.specs.Choices.{AdaptiveNet, IsAdaptiveNet}
use Rattle.network_adaptive.specs.Flow.{CanOccur, CanAllOccur}
use Rattle.network_adaptive.specs.Tracks.{HasTracks}
use Rattle.network_adaptive.specs.Work.{AreNearer, adaptive_onward, adaptive_weight_at, adaptive_weight, adaptive_promised}
use Rattle.network_adaptive.proofs.Kept.{owner_apart, given}
use Rattle.network_adaptive.proofs.Reached.{words_kept, tracks_kept, tracks_empty}

module _ (n : AdaptiveNet) (far : ℕ → ℕ → ℕ) where
  -- what a channel and its notes owe
  abbrev owes : NetState → ℕ → ℕ
  owes s x = adaptive_weight_at far x (s.lines x) (s.notes x)

  one_changes : (s t : NetState) (x c : ℕ) (l : NetLine) (k : Note) → x < n.frame.channels → IsChangedAt s t x l k
      → adaptive_weight_at far x l k + 1 ≤ owes s x + c → adaptive_weight n far t + 1 ≤ adaptive_weight n far s + c
  one_changes s t x c l k within change local =
      let same : (z : ℕ) → z < n.frame.channels → z ≢ x → owes t z ≡ owes s z = λ z inner other.
      ap (λ m. adaptive_weight_at far z m (t.notes z)) (change.lines z other) ∙ ap (λ h. adaptive_weight_at far z (s.lines z) h) (change.notes z other) in
      let here : owes t x ≡ adaptive_weight_at far x l k = ap (λ m. adaptive_weight_at far x m (t.notes x)) change.line ∙ ap (λ h. adaptive_weight_at far x l h) change.note in
      let sums : adaptive_weight n far t + owes s x ≡ adaptive_weight n far s + owes t x = sum_one n.frame.channels x (owes s) (owes t) within same in
      omega arith

  two_change : (s t : NetState) (x y c : ℕ) (l : NetLine) (k : Note) (m : NetLine) (h : Note) → x < n.frame.channels → y < n.frame.channels → x ≢ y
      → AreChangedAt s t x l k y m h
      → adaptive_weight_at far x l k + adaptive_weight_at far y m h + 1 ≤ owes s x + owes s y + c → adaptive_weight n far t + 1 ≤ adaptive_weight n far s + c
  two_change s t x y c l k m h hx hy apart change local =
      let same : (z : ℕ) → z < n.frame.channels → z ≢ x → z ≢ y → owes t z ≡ owes s z = λ z inner other more.
      ap (λ m. adaptive_weight_at far z m (t.notes z)) (change.lines z other more) ∙ ap (λ h. adaptive_weight_at far z (s.lines z) h) (change.notes z other more) in
      let here : owes t x ≡ adaptive_weight_at far x l k = ap (λ m. adaptive_weight_at far x m (t.notes x)) change.line ∙ ap (λ h. adaptive_weight_at far x l h) change.note in
      let there : owes t y ≡ adaptive_weight_at far y m h = ap (λ l. adaptive_weight_at far y l (t.notes y)) change.line_too ∙ ap (λ k. adaptive_weight_at far y m k) change.note_too in
      let sums : adaptive_weight n far t + owes s x + owes s y ≡ adaptive_weight n far s + owes t x + owes t y = sum_two n.frame.channels x y (owes s) (owes t) hx hy apart same in
      omega arith

  inject_head : (x : ℕ) (l : NetLine) (k : Note) (p : Parcel) → k.owed ≡ []
      → adaptive_weight_at far x (record (put p.head l) { rest = p.tail }) (record k { parcels = k.parcels ++ p ∷ []; owed = p.tail; sent = k.sent ++ p ∷ [] }) + 1
      ≤ adaptive_weight_at far x l k + 3 * (length (net_flits p) * (far x p.destination + 1))
  inject_head x l k p none =
      let b : ℕ = far x p.destination in
      let m : ℕ = length (net_flits p) in
      let owed = ap length none in
      let size = length-append l.flits (p.head ∷ []) in
      let sum = sum_by_push (adaptive_onward far x) k.parcels p in
      let more : b + 1 ≡ suc b = omega arith in
      let whole : m * (b + 1) ≡ m * suc b = ap (λ z. m * z) more in
      let split = mul-suc m b in
      omega arith

  put_rest : (x : ℕ) (l : NetLine) (k : Note) (f : ℕ) (more : List ℕ) → k.owed ≡ f ∷ more
      → adaptive_weight_at far x (put f l) (record k { owed = drop 1 k.owed }) + 1 ≤ adaptive_weight_at far x l k + 0
  put_rest x l k f more owed =
      let size = ap length owed in
      let dropped : length (drop 1 k.owed) ≡ length more = ap (λ o. length (drop 1 o)) owed in
      let longer = length-append l.flits (f ∷ []) in
      omega arith

  take_one : (x : ℕ) (l : NetLine) (k : Note) (f : ℕ) (more : List ℕ) → l.flits ≡ f ∷ more → adaptive_weight_at far x (taken more l) k + 1 ≤ adaptive_weight_at far x l k + 0
  take_one x l k f more first = let size = ap length first in omega arith

  take_head : (x : ℕ) (l : NetLine) (k : Note) (f : ℕ) (more : List ℕ) (p : Parcel) (ps : List Parcel) → l.flits ≡ f ∷ more → k.parcels ≡ p ∷ ps
      → adaptive_weight_at far x (taken more l) (record k { parcels = drop 1 k.parcels }) + 1 ≤ adaptive_weight_at far x l k + 0
  take_head x l k f more p ps first parcels =
      let size = ap length first in
      let sum : sum_by (adaptive_onward far x) k.parcels ≡ adaptive_onward far x p + sum_by (adaptive_onward far x) ps = ap (sum_by (adaptive_onward far x)) parcels ∙ sum_by-cons (adaptive_onward far x) p ps in
      let dropped : sum_by (adaptive_onward far x) (drop 1 k.parcels) ≡ sum_by (adaptive_onward far x) ps = ap (λ qs. sum_by (adaptive_onward far x) (drop 1 qs)) parcels in
      omega arith

  credit_back : (x : ℕ) (l : NetLine) (k : Note) → 0 < l.returning
      → adaptive_weight_at far x (record l { held = l.held + 1; returning = l.returning - 1 }) k + 1 ≤ adaptive_weight_at far x l k + 0
  credit_back x l k some = omega arith

  forward_head : (x y f : ℕ) (l m : NetLine) (k h : Note) (p : Parcel) (ps : List Parcel) → k.parcels ≡ p ∷ ps → h.owed ≡ []
      → far y p.destination < far x p.destination
      → adaptive_weight_at far x (record l { latch = None }) (record k { parcels = drop 1 k.parcels; awaited = first_tail k.parcels })
      + adaptive_weight_at far y (forwarded n.frame x f m) (record h { parcels = h.parcels ++ take 1 k.parcels; owed = first_tail k.parcels }) + 1
      ≤ adaptive_weight_at far x l k + adaptive_weight_at far y m h + 0
  forward_head x y f l m k h p ps parcels none nearer =
      let owed = ap length none in
      let size = length-append m.flits (f ∷ []) in
      let before : sum_by (adaptive_onward far x) k.parcels ≡ adaptive_onward far x p + sum_by (adaptive_onward far x) ps = ap (sum_by (adaptive_onward far x)) parcels ∙ sum_by-cons (adaptive_onward far x) p ps in
      let dropped : sum_by (adaptive_onward far x) (drop 1 k.parcels) ≡ sum_by (adaptive_onward far x) ps = ap (λ qs. sum_by (adaptive_onward far x) (drop 1 qs)) parcels in
      let tail : length (first_tail k.parcels) ≡ length p.tail = ap (λ qs. length (first_tail qs)) parcels in
      let moved : sum_by (adaptive_onward far y) (h.parcels ++ take 1 k.parcels) ≡ sum_by (adaptive_onward far y) (h.parcels ++ p ∷ []) =
      ap (λ qs. sum_by (adaptive_onward far y) (h.parcels ++ take 1 qs)) parcels in
      let new = sum_by_push (adaptive_onward far y) h.parcels p in
      let m : ℕ = length (net_flits p) in
      let less : m * suc (far y p.destination) ≤ m * far x p.destination = mul-le-mul_left m nearer in
      let split = mul-suc m (far y p.destination) in
      omega arith

  forward_rest : (x y f : ℕ) (l m : NetLine) (k h : Note) (more : List ℕ) → h.owed ≡ f ∷ more
      → adaptive_weight_at far x (record l { latch = None }) (record k { awaited = drop 1 k.awaited })
      + adaptive_weight_at far y (forwarded n.frame x f m) (record h { owed = drop 1 h.owed }) + 1
      ≤ adaptive_weight_at far x l k + adaptive_weight_at far y m h + 0
  forward_rest x y f l m k h more owed =
      let one : adaptive_weight_at far y (put f m) (record h { owed = drop 1 h.owed }) + 1 ≤ adaptive_weight_at far y m h + 0 = put_rest y m h f more owed in
      omega arith

  module _ (s : NetState) (net : IsAdaptiveNet n) (words : Words n.frame s) (tracks : HasTracks n s) (nearer : AreNearer n far) where
    -- each event makes one of the moves that are owed, and promises those of a new packet
    pub one_less : (e : NetEvent) → CanOccur n s.lines e → adaptive_weight n far (after n.frame s e) + 1 ≤ adaptive_weight n far s + adaptive_promised far e
    one_less (InjectHead x k) may =
        let l : NetLine = record (put k.head (s.lines x)) { rest = k.tail } in
        let h : Note = record (s.notes x) { parcels = (s.notes x).parcels ++ k ∷ []; owed = k.tail; sent = (s.notes x).sent ++ k ∷ [] } in
        one_changes s (after n.frame s (InjectHead x k)) x (adaptive_promised far (InjectHead x k)) l h may.here (changed s x l h)
        (inject_head x (s.lines x) (s.notes x) k (words.senders x may.injects ∙ may.idle))
    one_less (InjectRest x f more) may =
        let l : NetLine = record (put f (s.lines x)) { rest = more } in
        let h : Note = record (s.notes x) { owed = more } in
        let owed : (s.notes x).owed ≡ f ∷ more = words.senders x may.injects ∙ may.course in
        one_changes s (after n.frame s (InjectRest x f more)) x 0 l h may.here (changed s x l h)
        (subst (λ o. adaptive_weight_at far x (put f (s.lines x)) (record (s.notes x) { owed = o }) + 1 ≤ owes s x + 0) (ap (drop 1) owed)
        (put_rest x (s.lines x) (s.notes x) f more owed))
    one_less (Latch x f more) may =
        let l : NetLine = record (taken more (s.lines x)) { latch = Some f } in
        one_changes s (after n.frame s (Latch x f more)) x 0 l (s.notes x) may.here (changed_line s x l) (take_one x (s.lines x) (s.notes x) f more may.first)
    one_less (ForwardHead x y f) may =
        let g = given n net s words tracks.course tracks.stamp tracks.now tracks.are x y f may in
        let l : NetLine = record (s.lines x) { latch = None } in
        let k : Note = record (s.notes x) { parcels = drop 1 (s.notes x).parcels; awaited = first_tail (s.notes x).parcels } in
        let m : NetLine = forwarded n.frame x f (s.lines y) in
        let h : Note = record (s.notes y) { parcels = (s.notes y).parcels ++ take 1 (s.notes x).parcels; owed = first_tail (s.notes x).parcels } in
        two_change s (after n.frame s (ForwardHead x y f)) x y 0 l k m h may.here g.there g.apart (changed_both s x l k y m h g.apart)
        (forward_head x y f (s.lines x) (s.lines y) (s.notes x) (s.notes y) g.moves.first (drop 1 (s.notes x).parcels) g.moves.was
        (words.free y g.output may.free) (nearer g.moves.first.destination x y g.comes g.step))
    one_less (ForwardRest x y f) may =
        let rest = goes_on n.frame s words x f (s.lines x).flits may.rest (in_line_is s x (Some f) (s.lines x).flits may.full refl) in
        let held = words.held x y may.owned in
        let apart = owner_apart n net s words tracks.course tracks.stamp tracks.now tracks.are x y may.owned in
        let l : NetLine = record (s.lines x) { latch = None } in
        let k : Note = record (s.notes x) { awaited = drop 1 (s.notes x).awaited } in
        let m : NetLine = forwarded n.frame x f (s.lines y) in
        let h : Note = record (s.notes y) { owed = drop 1 (s.notes y).owed } in
        two_change s (after n.frame s (ForwardRest x y f)) x y 0 l k m h may.here (words.inside.owned x y may.owned) apart
        (changed_both s x l k y m h apart)
        (forward_rest x y f (s.lines x) (s.lines y) (s.notes x) (s.notes y) rest.0 (held.same ∙ rest.1))
    one_less (AcceptHead x f more) may =
        let p = moved n.frame (s.notes x) f (more ++ (s.notes x).owed) (words.parcels x) (words.awaited x) may.head (ejected n.frame s x f more true words may) in
        let l : NetLine = accepted n.frame f more (s.lines x) in
        let h : Note = record (s.notes x)
        { parcels = drop 1 (s.notes x).parcels; awaited = first_tail (s.notes x).parcels; begun = (s.notes x).begun ++ take 1 (s.notes x).parcels } in
        one_changes s (after n.frame s (AcceptHead x f more)) x 0 l h may.here (changed s x l h)
        (take_head x (s.lines x) (s.notes x) f more p.first (drop 1 (s.notes x).parcels) may.first p.was)
    one_less (AcceptRest x f more) may =
        let l : NetLine = accepted n.frame f more (s.lines x) in
        let h : Note = record (s.notes x) { awaited = drop 1 (s.notes x).awaited } in
        one_changes s (after n.frame s (AcceptRest x f more)) x 0 l h may.here (changed s x l h) (take_one x (s.lines x) (s.notes x) f more may.first)
    one_less (Return x) may =
        let l : NetLine = record (s.lines x) { held = (s.lines x).held + 1; returning = (s.lines x).returning - 1 } in
        one_changes s (after n.frame s (Return x)) x 0 l (s.notes x) may.here (changed_line s x l) (credit_back x (s.lines x) (s.notes x) may.returns)

  -- all events together
  all_make_moves : (s : NetState) (es : List NetEvent) → IsAdaptiveNet n → Words n.frame s → HasTracks n s → AreNearer n far → CanAllOccur n s es
      → adaptive_weight n far (after_all n.frame s es) + length es ≤ adaptive_weight n far s + sum_by (adaptive_promised far) es
  all_make_moves s [] net w r nearer may = omega arith
  all_make_moves s (e ∷ es) net w r nearer may =
      let one : adaptive_weight n far (after n.frame s e) + 1 ≤ adaptive_weight n far s + adaptive_promised far e = one_less s net w r nearer e may.0 in
      let rest : adaptive_weight n far (after_all n.frame (after n.frame s e) es) + length es ≤ adaptive_weight n far (after n.frame s e) + sum_by (adaptive_promised far) es =
      all_make_moves (after n.frame s e) es net (words_kept n s e net w r may.0) (tracks_kept n s e net w r may.0) nearer may.1 in
      let sum = sum_by-cons (adaptive_promised far) e es in
      omega arith

  empty_owes : (m : ℕ) → sum_below m (λ x. adaptive_weight_at far x (empty_line n.frame) empty_note) ≡ 0
  empty_owes zero = refl
  empty_owes (suc m) = let ih = empty_owes m in omega arith

  pub moves_are_promised : (es : List NetEvent) → IsAdaptiveNet n → AreNearer n far → CanAllOccur n (empty n.frame) es
      → adaptive_weight n far (after_all n.frame (empty n.frame) es) + length es ≤ sum_by (adaptive_promised far) es
  moves_are_promised es net nearer may =
      let all : adaptive_weight n far (after_all n.frame (empty n.frame) es) + length es ≤ adaptive_weight n far (empty n.frame) + sum_by (adaptive_promised far) es =
      all_make_moves (empty n.frame) es net (words_empty n.frame) (tracks_empty n) nearer may in
      let none : adaptive_weight n far (empty n.frame) ≡ 0 = empty_owes n.frame.channels in
      omega arith
