-- Numbers of channels: they rise apart from one another, and are bounded.
use Rattle.std.proofs.Common.{◌≡◌, ℕ, ◌+◌, ◌-◌, ◌*◌, ◌<◌, ◌≤◌, suc, Bool, true, false, List, [], ◌∷◌, ◌++◌, take, sym, subst, arith, mod-lt}
use Rattle.std.specs.Prelude.{sum, slice_index}
use Rattle.std.specs.List.Sorted.{IsStrictlyIncreasing}
use Rattle.std.proofs.lemmas.List.Sums.{sum_by-take-le}
use Rattle.torus.specs.Shape.{Shape, IsAccepted, radix_of, dateline_of, digit_of}
use Rattle.torus.specs.declared.shape.Class.{Class}
use Rattle.torus.specs.declared.shape.Class.TheVariants.{Request, Reply}
use Rattle.torus.specs.declared.shape.Dir.{Dir}
use Rattle.torus.specs.declared.shape.Dir.TheVariants.{Plus, Minus}
use Rattle.dateline_route.specs.declared.channel.Kind.{Kind}
use Rattle.dateline_route.specs.declared.channel.Kind.TheVariants.{Injection, Hop, Ejection}
use Rattle.dateline_route.specs.Walk.{IsInside}
use Rattle.channel_number.specs.Number.{past_dateline, rank_of, first_number, number_at}
use Rattle.channel_number.proofs.Climb.{sum_more}

tail_rises : (x : ℕ) (xs : List ℕ) → IsStrictlyIncreasing (x ∷ xs) → IsStrictlyIncreasing xs
tail_rises x xs up k low =
    let there : suc (k + 1) ≡ suc k + 1 = omega arith in
    let P : ℕ → Type 0 = λ m. slice_index (x ∷ xs) (suc k) < slice_index (x ∷ xs) m in
    subst P (sym there) (up (suc k) (omega arith))

head_rises : (x y : ℕ) (xs : List ℕ) → IsStrictlyIncreasing (x ∷ y ∷ xs) → x < y
head_rises x y xs up =
    let P : ℕ → Type 0 =
    λ m. slice_index (x ∷ y ∷ xs) 0 < slice_index (x ∷ y ∷ xs) m in let one : 0 + 1 ≡ 1 = omega arith in subst P one (up 0 (omega arith))

rises_from : (a : ℕ) (between : List ℕ) (b : ℕ) (after : List ℕ) → IsStrictlyIncreasing (a ∷ between ++ b ∷ after) → a < b
rises_from a [] b after up = head_rises a b after up
rises_from a (c ∷ between) b after up =
    let first = head_rises a c (between ++ b ∷ after) up in
    let rest = rises_from c between b after (tail_rises a (c ∷ between ++ b ∷ after) up) in
    omega arith

-- the numbers of a rising list rise from each place to each later one
pub rises_apart : (before : List ℕ) (a : ℕ) (between : List ℕ) (b : ℕ) (after : List ℕ)
    → IsStrictlyIncreasing (before ++ (a ∷ (between ++ b ∷ after))) → a < b
rises_apart [] a between b after up = rises_from a between b after up
rises_apart (c ∷ before) a between b after up =
    rises_apart before a between b after (tail_rises c (before ++ (a ∷ (between ++ b ∷ after))) up)

past_below : (dir : Dir) (k z x : ℕ) → 0 < k → past_dateline dir k z x < k
past_below Plus k z x some = mod-lt (x + (k - (z + 1))) some
past_below Minus k z x some = mod-lt (z + (k - x)) some

rank_low : (dir : Dir) (k z x : ℕ) (bit : Bool) → 0 < k → rank_of dir k z x bit < k + k
rank_low dir k z x false some = omega (arith, past_below dir k z x some)
rank_low dir k z x true some = omega (arith, mod-lt (past_dateline dir k z x + 1) some)

take_below : (ks : List ℕ) (m : ℕ) → sum (take m ks) ≤ sum ks
take_below ks m = sum_by-take-le (λ k. k) ks m

first_low : (s : Shape) (class : Class) → first_number s class ≤ 2 + 2 * sum s.radices
first_low s Request = omega arith
first_low s Reply = omega arith

pub number_below : (s : Shape) → IsAccepted s → (t : ℕ) (class : Class) (kind : Kind) → IsInside s kind
    → number_at s t class kind < 4 + 4 * sum s.radices
number_below s h t class Injection inside = omega (arith, first_low s class)
number_below s h t class (Hop d dir bit) inside =
    let low = h.radix_low d inside in
    omega (
      arith,
      first_low s class,
      rank_low dir (radix_of s d) (dateline_of s d) (digit_of s t d) bit
          (omega arith),
      sum_more s.radices d inside,
      take_below s.radices (d + 1),
    )
number_below s h t class Ejection inside = omega (arith, first_low s class)
