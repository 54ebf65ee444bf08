-- A number that is spelled is a word, which is read as the number.
use Rattle.std.proofs.Common.{◌≡◌, ◌<◌, ◌^◌, ◌==◌, ℕ, true, false, List, [], ◌∷◌, length, decimal, refl, arith, Some}
use Rattle.std.specs.Prelude.{min}
use Rattle.std.specs.Str.{all_ascii_digits}
use Rattle.std.specs.Str.Parse.{AllDigits, IsNumeral, digits_value}
use Rattle.std.proofs.lemmas.Bool.{ne_eqb}
use Rattle.std.proofs.lemmas.Fmt.{decimal_is_IsNumeral, digits_decimal}
use Rattle.std.proofs.lemmas.List.Elements.{All-from_get_or}
use Rattle.std.proofs.lemmas.Str.Parse.{IsNumeralModel, numerals_by_value, tells_all_ascii_digits, digit_at}
use Rattle.lexer.specs.Words.{begins_comment}
use Rattle.lexer.specs.Numbers.{index_of}
use Rattle.command_schedule.proofs.Cuts.{IsWord}

pub decimal_is_word : (n : ℕ) → n < 2 ^ 64 → IsWord (decimal n)
decimal_is_word n small =
    let is : IsNumeral 10 (decimal n) × (digits_value 10 (decimal n) ≡ n) = decimal_is_IsNumeral n small in
    record {
      some = is.0.0;
      letters = All-from_get_or (λ b. 32 < b) (decimal n) 0 (λ i inside. omega (arith, (digit_at (decimal n) i is.0.1 inside).0));
    }

digits_begin_no_comment : (word : List ℕ) → AllDigits 10 word → begins_comment word ≡ false
digits_begin_no_comment [] h = refl
digits_begin_no_comment (c ∷ cs) h = ne_eqb c 35 (λ e. absurd (omega (arith, e, (digit_at (c ∷ cs) 0 h (omega arith)).0)))

pub decimal_begins_no_comment : (n : ℕ) → n < 2 ^ 64 → begins_comment (decimal n) ≡ false
decimal_begins_no_comment n small = digits_begin_no_comment (decimal n) (decimal_is_IsNumeral n small).0.1

numerals : IsNumeralModel (λ ds. all_ascii_digits ds ≡ true) (digits_value 10)
numerals = numerals_by_value (λ ds. all_ascii_digits ds ≡ true) tells_all_ascii_digits

pub index_of-decimal : (n : ℕ) → n < 2 ^ 31 → index_of (decimal n) ≡ Some n
index_of-decimal n small =
    let is : IsNumeral 10 (decimal n) × (digits_value 10 (decimal n) ≡ n) = decimal_is_IsNumeral n (omega (arith, small)) in
    let some : (length (decimal n) == 0) ≡ false = ne_eqb (length (decimal n)) 0 (λ e. absurd (omega (arith, e, is.0.0))) in
    let digits : all_ascii_digits (decimal n) ≡ true = digits_decimal numerals n (omega (arith, small)) in
    let least : min n (2 ^ 31) ≡ n = omega (arith, small) in
    rw (some, digits, is.1, least)
