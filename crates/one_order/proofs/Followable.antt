-- A test of scripts that can be followed to their end.
use Rattle.std.proofs.Common.{◌≡◌, ℕ, zero, suc, ◌+◌, ◌<◌, ◌&&◌, ◌||◌, Bool, true, false, not, List, [], ◌∷◌, take, Some, sym, ◌∙◌, ap, arith, slice_get}
use Rattle.std.proofs.Common.{nat_lt, ltb-true}
use Rattle.std.proofs.lemmas.Bool.{and_parts}
use Rattle.std.proofs.lemmas.List.Sums.{sum_by-cons}
use Rattle.std.proofs.lemmas.Option.{same_Some}
use Rattle.script_lines.specs.declared.line.Line.{Line}
use Rattle.script_lines.specs.declared.line.Line.TheVariants as line
use Rattle.script_lines.specs.Lines.{operations_of, operation_count, mentions_last, IsAcceptedLine, IsAcceptedScript}
use Rattle.one_order.specs.Scripts.{IsFollowable}

abbrev has_loads : Line → Bool
has_loads (line.Spin a v m) = nat_lt 0 m
has_loads first = true

-- the first line can be followed, where the lines before it count so many operations
abbrev can_follow_first : ℕ → Line → Bool
can_follow_first count first = has_loads first && (not (mentions_last first) || nat_lt 0 count)

-- each line can be followed, where the lines before them count so many operations
abbrev pub can_follow : ℕ → List Line → Bool
can_follow count [] = true
can_follow count (first ∷ lines) = can_follow_first count first && can_follow (count + operations_of first) lines

module _ (count : ℕ) (first : Line) (lines : List Line) (h : can_follow count (first ∷ lines) ≡ true) where
  follows_first : (has_loads first ≡ true) × ((not (mentions_last first) || nat_lt 0 count) ≡ true)
  follows_first = and_parts (has_loads first) (not (mentions_last first) || nat_lt 0 count)
      (and_parts (can_follow_first count first) (can_follow (count + operations_of first) lines) h).0

  follows_rest : can_follow (count + operations_of first) lines ≡ true
  follows_rest = (and_parts (can_follow_first count first) (can_follow (count + operations_of first) lines) h).1

loads_of : (first : Line) (a v m : ℕ) → has_loads first ≡ true → first ≡ line.Spin a v m → 0 < m
loads_of first a v m h e = ltb-true 0 m (ap has_loads (sym e) ∙ h)

loads_at : (count : ℕ) (lines : List Line) → can_follow count lines ≡ true → (k a v m : ℕ) → slice_get lines k ≡ Some (line.Spin a v m) → 0 < m
loads_at count [] h k a v m g = cc
loads_at count (first ∷ lines) h zero a v m g = loads_of first a v m (follows_first count first lines h).0 (same_Some first (line.Spin a v m) g)
loads_at count (first ∷ lines) h (suc k) a v m g = loads_at (count + operations_of first) lines (follows_rest count first lines h) k a v m g

counted_if : (test : Bool) (count : ℕ) → (not test || nat_lt 0 count) ≡ true → test ≡ true → 0 < count
counted_if true count h u = ltb-true 0 count h
counted_if false count h u = cc

lasts_at : (count : ℕ) (lines : List Line) → can_follow count lines ≡ true → (k : ℕ) (first : Line) → slice_get lines k ≡ Some first
    → mentions_last first ≡ true →
    0 < count + operation_count (take k lines)
lasts_at count [] h k first g u = cc
lasts_at count (x ∷ lines) h zero first g u =
    let e : x ≡ first = same_Some x first g in
    omega (arith, counted_if (mentions_last x) count (follows_first count x lines h).1 (ap mentions_last e ∙ u))
lasts_at count (x ∷ lines) h (suc k) first g u =
    omega (arith, lasts_at (count + operations_of x) lines (follows_rest count x lines h) k first g u, sum_by-cons operations_of x (take k lines))

pub followable_by : (lines : List Line) → can_follow 0 lines ≡ true → IsFollowable lines
followable_by lines h = record { loads = loads_at 0 lines h; lasts = λ k first g u. omega (arith, lasts_at 0 lines h k first g u) }

-- accepted scripts can be followed
spin_has_load : (words a v m : ℕ) → IsAcceptedLine words (line.Spin a v m) → 0 < m
spin_has_load words a v m h = omega (arith, h.2)

pub accepted_followable : (words : ℕ) (lines : List Line) → IsAcceptedScript words lines → IsFollowable lines
accepted_followable words lines h = record { loads = λ k a v m g. spin_has_load words a v m (h.each k (line.Spin a v m) g); lasts = h.lasts }
