-- The number that digits spell, one more digit at a time.
use Rattle.std.proofs.Common.{◌≡◌, ◌+◌, ◌-◌, ◌*◌, ◌<◌, ℕ, ◌&&◌, min, List, length, get_or, take, drop, ap, arith}
use Rattle.std.specs.Int.{IsInRange}
use Rattle.std.specs.Char.{is_ascii_digit}
use Rattle.std.specs.Str.{all_ascii_digits}
use Rattle.std.specs.Str.Parse.{digits_value}
use Rattle.std.proofs.lemmas.List.{drop_more}
use Rattle.std.proofs.lemmas.Str.{digit_value_digit}
use Rattle.std.proofs.lemmas.Int.Digits.{digits_value_more}

-- one more digit
pub value_more : (word : List ℕ) (i number most : ℕ) → i < length word → IsInRange 48 57 (get_or word i 0) → number ≡ min (digits_value 10 (take i word)) most
    → min (number * 10 + (get_or word i 0 - 48)) most ≡ min (digits_value 10 (take (i + 1) word)) most
value_more word i number most h digit so_far =
    omega (arith, digits_value_more 10 word i h, digit_value_digit (get_or word i 0) digit)

-- the rest is digits if its first byte is one and what follows is
pub digits_drop : (word : List ℕ) (i : ℕ) → i < length word
    → all_ascii_digits (drop i word) ≡ (is_ascii_digit (get_or word i 0) && all_ascii_digits (drop (i + 1) word))
digits_drop word i h = ap all_ascii_digits (drop_more word i 0 h)
