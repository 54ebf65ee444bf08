-- What each event does of what the flits have still to do.
use Rattle.std.proofs.Common.{◌≡◌, ◌≢◌, ⊎_elim, ℕ, ◌+◌, ◌-◌, ◌*◌, ◌<◌, List, [], ◌∷◌, length, Some, None, sym, ap, ◌∙◌, refl, arith}
use Rattle.std.proofs.Common.{length-append}
use Rattle.std.proofs.lemmas.Bool.{cases_eq}
use Rattle.std.specs.List.{sum_by}
use Rattle.wormhole.specs.Net.{Net, IsNet}
use Rattle.wormhole.specs.State.{NetLine, NetState, update}
use Rattle.wormhole.specs.Words.{Words}
use Rattle.wormhole.specs.Routes.{Routes}
use Rattle.wormhole.specs.Weight.{sum_below, weight, weight_at, weight_onward, promised}
use Rattle.wormhole.specs.Events.{NetEvent, InjectHead, InjectRest, Latch, ForwardHead, ForwardRest, AcceptHead, AcceptRest, Return, put, taken, forwarded}
use Rattle.wormhole.specs.Events.{accepted, after, CanHappen}
use Rattle.wormhole.proofs.Changes.{update_same, update_other}
use Rattle.wormhole.proofs.Sums.{sum_one, sum_same}
use Rattle.wormhole.proofs.Falls.{one_less}
use Rattle.wormhole.proofs.Heads.{in_line_is, heads, leads}
use Rattle.fair_rounds.specs.Burden.{burden_at, burden, toll}
use Rattle.fair_rounds.proofs.Reindexing.{sum_plus}

-- the flits in a channel and the credits on their way back
abbrev stock_at : NetLine → ℕ
stock_at l = length l.flits + l.returning

abbrev stock : Net → NetState → ℕ
stock n s = sum_below n.channels (λ x. stock_at (s.lines x))

owes_both : (n : Net) (s : NetState) → weight n s ≡ burden n s + stock n s
owes_both n s =
    sum_same n.channels (λ x. burden_at n x (s.lines x) (s.notes x) + stock_at (s.lines x)) (λ x. weight_at n x (s.lines x) (s.notes x))
    (λ x low. parts (length (s.notes x).owed) (length (s.lines x).flits) (s.lines x).returning (sum_by (weight_onward n x) (s.notes x).parcels))
    ∙ sum_plus n.channels (λ x. burden_at n x (s.lines x) (s.notes x)) (λ x. stock_at (s.lines x))
  where
    parts : (o f r w : ℕ) → 3 * o + 2 * f + r + 3 * w ≡ 3 * o + f + 3 * w + (f + r)
    parts o f r w = omega arith

module _ (n : Net) (s : NetState) where
  stock_one : (lines : ℕ → NetLine) (x c : ℕ) → x < n.channels → ((z : ℕ) → z ≢ x → stock_at (lines z) ≡ stock_at (s.lines z))
      → stock_at (lines x) + 1 ≡ stock_at (s.lines x) + c
      → sum_below n.channels (λ z. stock_at (lines z)) + 1 ≡ stock n s + c
  stock_one lines x c within others here =
      let sums = sum_one n.channels x (λ z. stock_at (s.lines z)) (λ z. stock_at (lines z)) within (λ z low other. others z other) in
      omega (arith, sums, here)

  -- one channel has another line
  stock_updated : (x c : ℕ) (l : NetLine) → x < n.channels → stock_at l + 1 ≡ stock_at (s.lines x) + c
      → sum_below n.channels (λ z. stock_at (update s.lines x l z)) + 1 ≡ stock n s + c
  stock_updated x c l within here =
      let is : stock_at (update s.lines x l x) ≡ stock_at l = ap stock_at (update_same s.lines x l) in
      stock_one (update s.lines x l) x c within (λ z other. ap stock_at (update_other s.lines x l z other)) (omega (arith, is, here))

  -- a flit goes from the latch behind x into y
  stock_forwarded : (x y : ℕ) (l m : NetLine) → x ≢ y → y < n.channels → stock_at l ≡ stock_at (s.lines x) → stock_at m ≡ stock_at (s.lines y) + 1
      → sum_below n.channels (λ z. stock_at (update (update s.lines x l) y m z)) + 1 ≡ stock n s + 2
  stock_forwarded x y l m apart within here there =
      let is : stock_at (update (update s.lines x l) y m y) ≡ stock_at m = ap stock_at (update_same (update s.lines x l) y m) in
      stock_one (update (update s.lines x l) y m) y 2 within
      (λ z other. ap stock_at (update_other (update s.lines x l) y m z other) ∙ ⊎_elim
      (λ (e : z ≡ x). ap (λ w. stock_at (update s.lines x l w)) e ∙ (ap stock_at (update_same s.lines x l) ∙ (here ∙ ap (λ w. stock_at (s.lines w)) (sym e))))
      (λ (h : z ≢ x). ap stock_at (update_other s.lines x l z h))
      (cases_eq z x))
      (omega (arith, is, there))

  put_one : (f : ℕ) (l : NetLine) → stock_at (put f l) ≡ stock_at l + 1
  put_one f l = let more = length-append l.flits (f ∷ []) in omega (arith, more)

  take_one : (f : ℕ) (more : List ℕ) (l : NetLine) → l.flits ≡ f ∷ more → stock_at (taken more l) + 1 ≡ stock_at l + 1
  take_one f more l first = let size = ap length first in omega (arith, size)

  module _ (net : IsNet n) (words : Words n s) (routes : Routes n s) where
    stock_after : (e : NetEvent) → CanHappen n s.lines e → stock n (after n s e) + 1 ≡ stock n s + toll e
    stock_after (InjectHead x k) may =
        let one = put_one k.head (s.lines x) in
        stock_updated x 2 (record (put k.head (s.lines x)) { rest = k.tail }) may.here (omega (arith, one))
    stock_after (InjectRest x f more) may =
        let one = put_one f (s.lines x) in
        stock_updated x 2 (record (put f (s.lines x)) { rest = more }) may.here (omega (arith, one))
    stock_after (Latch x f more) may =
        stock_updated x 1 (record (taken more (s.lines x)) { latch = Some f }) may.here (take_one f more (s.lines x) may.first)
    stock_after (ForwardHead x y f) may =
        let at = heads n s words routes x f (s.lines x).flits may.head (in_line_is s x (Some f) (s.lines x).flits may.full refl) in
        let on = leads n s words net x y f may.input at may.output in
        let rises = on.rises in
        stock_forwarded x y (record (s.lines x) { latch = None }) (forwarded n x f (s.lines y))
        (λ e. let same = ap n.number e in omega (arith, same, rises)) on.within refl (put_one f (s.lines y))
    stock_after (ForwardRest x y f) may =
        let rises = routes.rising x y may.owned in
        stock_forwarded x y (record (s.lines x) { latch = None }) (forwarded n x f (s.lines y))
        (λ e. let same = ap n.number e in omega (arith, same, rises)) (words.inside.owned x y may.owned) refl (put_one f (s.lines y))
    stock_after (AcceptHead x f more) may = stock_updated x 1 (accepted n f more (s.lines x)) may.here (take_one f more (s.lines x) may.first)
    stock_after (AcceptRest x f more) may = stock_updated x 1 (accepted n f more (s.lines x)) may.here (take_one f more (s.lines x) may.first)
    stock_after (Return x) may =
        let some = may.returns in
        stock_updated x 0 (record (s.lines x) { held = (s.lines x).held + 1; returning = (s.lines x).returning - 1 }) may.here (omega (arith, some))

    -- an event does of what is to do what it counts, and adds what a new packet has to do
    pub burden_after : (e : NetEvent) → CanHappen n s.lines e → burden n (after n s e) + toll e ≡ burden n s + promised n e
    burden_after e may =
        let a = one_less n s net words routes e may in
        let b = stock_after e may in
        let c = owes_both n s in
        let d = owes_both n (after n s e) in
        omega (arith, a, b, c, d)
