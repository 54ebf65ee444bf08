-- Words at the beginning of a text.
use Rattle.std.proofs.Common.{◌≡◌, ◌≢◌, ◌<◌, ◌≤◌, ℕ, ◌*◌, ◌^◌, nat_lt, get_or, ◌+◌, ◌-◌, ◌==◌, true, false, List, [], ◌∷◌, length, drop}
use Rattle.std.proofs.Common.{Some, None, refl, sym, ap, ◌∙◌, ⊎_elim}
use Rattle.std.specs.Prelude.{nat_eq}
use Rattle.std.specs.List.{starts_with}
use Rattle.std.specs.Char.{is_ascii_digit}
use Rattle.std.proofs.lemmas.List.{drop_all, drop_more}
use Rattle.std.proofs.lemmas.Bool.{and_parts, cases_eq, eqb-true, eq-eqb, le-ltb, lt-ltb, ne_eqb}
use Rattle.report_lines.specs.Reading.{behind, digits_on}

-- the test of a beginning, and what stands behind it
pub behind-true : (word text : List ℕ) → starts_with nat_eq text word ≡ true → behind word text ≡ Some (drop (length word) text)
unfolding behind
behind-true [] text h = refl
behind-true (b ∷ word) [] h = absurd (cc)
behind-true (b ∷ word) (c ∷ text) h =
    let parts = and_parts (b == c) (starts_with nat_eq text word) h in
    let test : (c == b) ≡ true = eq-eqb c b (sym (eqb-true b c parts.0)) in
    rw test (behind-true word text parts.1)

pub behind-false : (word text : List ℕ) → starts_with nat_eq text word ≡ false → behind word text ≡ None
unfolding behind
behind-false [] text h = absurd (cc)
behind-false (b ∷ word) [] h = refl
behind-false (b ∷ word) (c ∷ text) h =
    ⊎_elim
    (λ same. let test : (c == b) ≡ true = eq-eqb c b same in
    let other : (b == c) ≡ true = eq-eqb b c (sym same) in
    let inner : starts_with nat_eq text word ≡ false = rw other at h in
    rw test (behind-false word text inner))
    (λ apart. let test : (c == b) ≡ false = ne_eqb c b apart in rw test)
    (cases_eq c b)

-- a number's digits, one byte at a time
pub digits_on-digit : (end n i : ℕ) (text : List ℕ) → i < length text → is_ascii_digit (get_or text i 0) ≡ true → 10 * n + (get_or text i 0 - 48) < 2 ^ 64
    → digits_on end n (drop i text) ≡ digits_on end (10 * n + (get_or text i 0 - 48)) (drop (i + 1) text)
unfolding digits_on
digits_on-digit end n i text inside digit small =
    let b : ℕ = get_or text i 0 in
    let test : nat_lt (10 * n + (b - 48)) (2 ^ 64) ≡ true = lt-ltb (10 * n + (b - 48)) (2 ^ 64) small in
    ap (digits_on end n) (drop_more text i 0 inside) ∙ rw (digit, test)

pub digits_on-much : (end n i : ℕ) (text : List ℕ) → i < length text → is_ascii_digit (get_or text i 0) ≡ true → 2 ^ 64 ≤ 10 * n + (get_or text i 0 - 48)
    → digits_on end n (drop i text) ≡ None
unfolding digits_on
digits_on-much end n i text inside digit much =
    let b : ℕ = get_or text i 0 in
    let test : nat_lt (10 * n + (b - 48)) (2 ^ 64) ≡ false = le-ltb (10 * n + (b - 48)) (2 ^ 64) much in
    ap (digits_on end n) (drop_more text i 0 inside) ∙ rw (digit, test)

pub digits_on-end : (end n i : ℕ) (text : List ℕ) → i < length text → is_ascii_digit (get_or text i 0) ≡ false → get_or text i 0 ≡ end
    → digits_on end n (drop i text) ≡ Some (n, drop (i + 1) text)
unfolding digits_on
digits_on-end end n i text inside digit is =
    let test : (get_or text i 0 == end) ≡ true = eq-eqb (get_or text i 0) end is in
    ap (digits_on end n) (drop_more text i 0 inside) ∙ rw (digit, test)

pub digits_on-other : (end n i : ℕ) (text : List ℕ) → i < length text → is_ascii_digit (get_or text i 0) ≡ false → get_or text i 0 ≢ end
    → digits_on end n (drop i text) ≡ None
unfolding digits_on
digits_on-other end n i text inside digit apart =
    let test : (get_or text i 0 == end) ≡ false = ne_eqb (get_or text i 0) end apart in
    ap (digits_on end n) (drop_more text i 0 inside) ∙ rw (digit, test)

pub digits_on-past : (end n i : ℕ) (text : List ℕ) → length text ≤ i → digits_on end n (drop i text) ≡ None
unfolding digits_on
digits_on-past end n i text past = ap (digits_on end n) (drop_all i text past)
