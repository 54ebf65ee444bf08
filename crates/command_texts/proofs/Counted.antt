-- How many elements some lists have together, counted list by list.
use Rattle.std.proofs.Common.{◌≡◌, ℕ, ◌+◌, List, [], Some, arith, ap, ◌∙◌, length, take, get_or, slice_get}
use Rattle.std.specs.Io.Iter.{u64_saturate}
use Rattle.std.specs.List.{sum_by}
use Rattle.std.proofs.lemmas.Option.{get_or_from_slice_get, slice_get_within}
use Rattle.std.proofs.lemmas.List.Sums.{sum_by_more}

-- a sum that saturates, and one more
saturates_more : (a b : ℕ) → u64_saturate (u64_saturate a + b) ≡ u64_saturate (a + b)
saturates_more a b = grind arith

-- one list more
pub count_more : {X : Type 0} (xss : List (List X)) (k count : ℕ) (xs : List X) → slice_get xss k ≡ Some xs
    → count ≡ u64_saturate (sum_by length (take k xss)) → u64_saturate (count + length xs) ≡ u64_saturate (sum_by length (take (k + 1) xss))
count_more xss k count xs at counted =
    let inside = slice_get_within xss k xs at in
    let this : get_or xss k [] ≡ xs = get_or_from_slice_get xss k xs [] at in
    let more : sum_by length (take (k + 1) xss) ≡ sum_by length (take k xss) + length xs =
    sum_by_more length xss k [] inside ∙ ap (λ ys. sum_by length (take k xss) + length ys) this in
    rw (more, counted) (saturates_more (sum_by length (take k xss)) (length xs))
