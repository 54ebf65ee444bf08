-- The number that digits spell, one more digit at a time, where a large one counts as the largest.
use Rattle.std.proofs.Common.{◌≡◌, ◌+◌, ◌*◌, ◌^◌, ◌<◌, ◌≤◌, ℕ, inl, inr, ⊎_elim, min, List, [], ◌∷◌, sym, ◌∙◌, ap, arith}
use Rattle.std.proofs.lemmas.Bool.{cases_Bool, cases_lt}
use Rattle.std.specs.Char.{digit_value}
use Rattle.std.specs.Str.Parse.{digits_value_after}
use Rattle.std.proofs.Math.Nat.{le-mul_of_pos_right}
use Rattle.trace_table.specs.Literals.{digits_among, is_digit_of, digits_taken}

low_stays : (n most : ℕ) → n ≤ most → n ≡ min n most
low_stays n most low = omega arith

most_above : (n most : ℕ) → min n most ≤ most
most_above n most = omega arith

-- a digit behind the largest number gives the largest
one_more : (radix most n d : ℕ) → 0 < radix
    → min (min n most * radix + d) most ≡ min (n * radix + d) most
one_more radix most n d some = ⊎_elim
    (λ (low : n < most). let same : min n most ≡ n = omega arith in rw same)
    (λ (high : most ≤ n).
    let same : min n most ≡ most = omega arith in
    let most_grown : most ≤ most * radix = le-mul_of_pos_right most some in
    let grown : n ≤ n * radix = le-mul_of_pos_right n some in
    rw same (omega arith))
    (cases_lt n most)

same_twice : (n most : ℕ) → min (min n most) most ≡ min n most
same_twice n most = omega arith

-- the largest number may stand for a larger one
pub capped : (radix most n : ℕ) (cs : List ℕ) → 0 < radix
    → min (digits_value_after radix (min n most) cs) most ≡ min (digits_value_after radix n cs) most
capped radix most n [] some = same_twice n most
capped radix most n (c ∷ cs) some =
    sym (capped radix most (min n most * radix + digit_value c) cs some)
    ∙ ap (λ (m : ℕ). min (digits_value_after radix m cs) most) (one_more radix most n (digit_value c) some)
    ∙ capped radix most (n * radix + digit_value c) cs some

-- the digits among some bytes, behind a number
pub digits_more : (radix n : ℕ) (cs : List ℕ) → 0 < radix → n ≤ 2 ^ 64
    → digits_taken radix n cs ≡ min (digits_value_after radix n (digits_among radix cs)) (2 ^ 64)
digits_more radix n [] some low = low_stays n (2 ^ 64) low
digits_more radix n (c ∷ cs) some low = elim (cases_Bool (is_digit_of radix c)) [
  | inl up ↦ rw up (digits_more radix (min (n * radix + digit_value c) (2 ^ 64)) cs some
      (most_above (n * radix + digit_value c) (2 ^ 64))
      ∙ capped radix (2 ^ 64) (n * radix + digit_value c) (digits_among radix cs) some)
  | inr down ↦ rw down (digits_more radix n cs some low)
]
