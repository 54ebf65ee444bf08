-- Waits that are counted when a flit comes or goes.
use Rattle.std.proofs.Common.{◌≡◌, inl, inr, ℕ, ◌+◌, ◌<◌, Bool, true, false, List, length, get_or, set, sym, ap, ◌∙◌, arith, get_or-set_same, get_or-set_other, subst, is_some, Option, None, ◌^◌}
use Rattle.std.proofs.lemmas.Bool.{cases_eq}
use Rattle.std.specs.Prelude.{◌&&◌, if◌then◌else◌}
use Rattle.network_traffic.specs.declared.waits.Wait.{Wait}
use Rattle.network_traffic.specs.Waits.{CountsWait, CountWaits}

-- a round ends, and the next one begins
pub round_ends : (waited round : ℕ) (stood full : Bool) (w : Wait) → CountsWait waited round stood full w
    → CountsWait (waited + (if stood && full then 1 else 0)) (round + 1) full full w
round_ends waited round true true w h = (let low = h.0 in omega (arith, low), let all = h.1 in omega (arith, all))
round_ends waited round true false w h = (let at = h.1 in omega (arith, at), let all = h.2 in omega (arith, all), λ e. absurd (let at = h.1 in omega (arith, at, e)))
round_ends waited round false true w h = (let at = h.0 in omega (arith, at), let at = h.0 in let all = h.1 in omega (arith, at, all))
round_ends waited round false false w h = (let few = h.0 in omega (arith, few), let all = h.1 in omega (arith, all), λ e. absurd (let few = h.0 in omega (arith, few, e)))

-- one latch more is counted
pub total_more : (counts : ℕ → ℕ) (waited : List ℕ) (x v : ℕ) → x < length waited → ((z : ℕ) → z < x → get_or waited z 0 ≡ counts z) → v ≡ counts x
    → (z : ℕ) → z < x + 1 → get_or (set waited x v) z 0 ≡ counts z
total_more counts waited x v here old is z low = elim (cases_eq z x) [
  | inl e ↦ ap (λ (k : ℕ). get_or (set waited x v) k 0) e ∙ (rw get_or-set_same (is ∙ ap counts (sym e)))
  | inr ne ↦ rw get_or-set_other (old z (omega (arith, low, ne)))
]

-- what is counted of a latch where so many rounds are over
pub counted_at : (counts : ℕ → ℕ) (rounds x : ℕ) (latches : List (Option ℕ)) (waits : List Wait) (d : Wait) (full : Bool) → full ≡ is_some (get_or latches x None) → x < length waits
    → CountWaits counts (rounds + 1) (λ z. is_some (get_or latches z None)) latches waits → CountsWait (counts x) (rounds + 1) full full (get_or waits x d)
counted_at counts rounds x latches waits d full is low shows = subst (λ (b : Bool). CountsWait (counts x) (rounds + 1) b b (get_or waits x d)) (sym is) (shows x d low)
