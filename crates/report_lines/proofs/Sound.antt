-- What is read is spelled so.
use Rattle.std.proofs.Common.{◌≡◌, ◌≢◌, ◌<◌, ◌≤◌, ℕ, ◌+◌, ◌-◌, ◌*◌, ◌^◌, ◌/◌, ◌%◌, ◌==◌, nat_lt, true, false, List, [], ◌∷◌, ◌++◌, Some, None}
use Rattle.std.proofs.Common.{decimal, sym, ap, subst, ◌∙◌, arith, ⊎_elim, append_assoc, lit<}
use Rattle.std.specs.Char.{is_ascii_digit}
use Rattle.std.proofs.lemmas.Bool.{cases_Bool, cases_eq, eqb-false, eqb-true, eq-eqb, ne_eqb, ltb-true}
use Rattle.std.proofs.lemmas.Bool.Decides.{nat_tests}
use Rattle.std.proofs.lemmas.Fmt.{decimal_digit, decimal_step}
use Rattle.std.proofs.lemmas.Option.{none-some, same_Some}
use Rattle.report_lines.specs.Reading.{behind, digits_on, number_read_at}

pub behind_sound : (word text rest : List ℕ) → behind word text ≡ Some rest → text ≡ word ++ rest
unfolding behind
behind_sound [] text rest h = same_Some text rest h
behind_sound (b ∷ word) [] rest h = absurd (cc)
behind_sound (b ∷ word) (c ∷ text) rest h =
    ⊎_elim
    (λ same. let test : (c == b) ≡ true = eq-eqb c b same in
    let inner : behind word text ≡ Some rest = rw test at h in
    cc (same, behind_sound word text rest inner))
    (λ apart. let test : (c == b) ≡ false = ne_eqb c b apart in
    let inner : None ≡ Some rest = rw test at h in absurd (cc))
    (cases_eq c b)

-- what a digit is
pub digit_range : (b : ℕ) → is_ascii_digit b ≡ true → (48 ≤ b) × (b ≤ 57)
digit_range b h = grind (arith, nat_tests)

-- one more digit
pub decimal_more : (n b : ℕ) → 0 < n → is_ascii_digit b ≡ true → 10 * n + (b - 48) < 2 ^ 64 → decimal (10 * n + (b - 48)) ≡ decimal n ++ b ∷ []
decimal_more n b some digit small =
    let range = digit_range b digit in
    let m : ℕ = 10 * n + (b - 48) in
    let ten : 10 ≤ m = omega arith in
    let front : m / 10 ≡ n = omega arith in
    let last : 48 + m % 10 ≡ b = omega arith in
    decimal_step m ten small ∙ ap (λ k. decimal k ++ (48 + m % 10) ∷ []) front ∙ ap (λ d. decimal n ++ d ∷ []) last

-- a number in the first place of a pair, and what is read there
pub record IsSpelled (end : ℕ) (text : List ℕ) (n : ℕ × List ℕ) : Type 0 where
  pub small : n.0 < 2 ^ 64
  pub spelled : text ≡ decimal n.0 ++ end ∷ n.1

digits_sound : (end n : ℕ) (text : List ℕ) (m : ℕ × List ℕ) → 0 < n → n < 2 ^ 64 → digits_on end n text ≡ Some m → IsSpelled end (decimal n ++ text) m
unfolding digits_on
digits_sound end n [] m some small h = absurd (cc)
digits_sound end n (b ∷ text) m some small h =
    let more : ℕ = 10 * n + (b - 48) in
    ⊎_elim
    (λ (digit : is_ascii_digit b ≡ true). ⊎_elim
    (λ (fits : nat_lt more (2 ^ 64) ≡ true).
    let step : digits_on end n (b ∷ text) ≡ digits_on end more text = rw (digit, fits) in
    let less : more < 2 ^ 64 = ltb-true more (2 ^ 64) fits in
    let is = digits_sound end more text m (omega (arith, some)) less (sym step ∙ h) in
    record {
      small = is.small;
      spelled = sym (ap (λ (t : List ℕ). t ++ text) (decimal_more n b some digit less) ∙ append_assoc (decimal n) (b ∷ []) text) ∙ is.spelled;
    })
    (λ (much : nat_lt more (2 ^ 64) ≡ false).
    let none : digits_on end n (b ∷ text) ≡ None = rw (digit, much) in absurd (none-some m (sym none ∙ h)))
    (cases_Bool (nat_lt more (2 ^ 64))))
    (λ (other : is_ascii_digit b ≡ false). ⊎_elim
    (λ (same : (b == end) ≡ true).
    let here : digits_on end n (b ∷ text) ≡ Some (n, text) = rw (other, same) in
    let is : (n, text) ≡ m = same_Some (n, text) m (sym here ∙ h) in
    let P : ℕ × List ℕ → Type 0 = IsSpelled end (decimal n ++ b ∷ text) in
    subst P is (record { small = small; spelled = ap (λ e. decimal n ++ e ∷ text) (eqb-true b end same) }))
    (λ (apart : (b == end) ≡ false).
    let none : digits_on end n (b ∷ text) ≡ None = rw (other, apart) in absurd (none-some m (sym none ∙ h)))
    (cases_Bool (b == end)))
    (cases_Bool (is_ascii_digit b))

-- a first digit that is not 0, and those behind it
digits_alone : (end b : ℕ) (text : List ℕ) (m : ℕ × List ℕ) → (b == 48) ≡ false → is_ascii_digit b ≡ true → digits_on end (b - 48) text ≡ Some m
    → IsSpelled end (b ∷ text) m
digits_alone end b text m some digit h =
    let range = digit_range b digit in
    let apart : b ≢ 48 = eqb-false b 48 some in
    let d : ℕ = b - 48 in
    let one : decimal d ≡ (48 + d) ∷ [] = decimal_digit d (omega arith) in
    let is : 48 + d ≡ b = omega arith in
    let more = digits_sound end d text m (omega (arith, apart)) (omega arith) h in
    record { small = more.small; spelled = sym (ap (λ (t : List ℕ). t ++ text) (one ∙ ap (λ x. x ∷ []) is)) ∙ more.spelled }

-- a number that begins with another digit than 0
number_long : (end b : ℕ) (text : List ℕ) (n : ℕ × List ℕ) → (b == 48) ≡ false → number_read_at end (b ∷ text) ≡ Some n → IsSpelled end (b ∷ text) n
unfolding number_read_at
number_long end b text n some h =
    ⊎_elim
    (λ (digit : is_ascii_digit b ≡ true).
    let step : number_read_at end (b ∷ text) ≡ digits_on end (b - 48) text = rw (some, digit) in
    digits_alone end b text n some digit (sym step ∙ h))
    (λ (other : is_ascii_digit b ≡ false).
    let none : number_read_at end (b ∷ text) ≡ None = rw (some, other) in absurd (none-some n (sym none ∙ h)))
    (cases_Bool (is_ascii_digit b))

-- the number 0
number_zero : (end b : ℕ) (text : List ℕ) (n : ℕ × List ℕ) → (b == 48) ≡ true → number_read_at end (b ∷ text) ≡ Some n → IsSpelled end (b ∷ text) n
unfolding number_read_at behind
number_zero end b [] n zero h =
    let none : number_read_at end (b ∷ []) ≡ None = rw zero in absurd (none-some n (sym none ∙ h))
number_zero end b (c ∷ text) n zero h =
    ⊎_elim
    (λ (same : (c == end) ≡ true).
    let here : number_read_at end (b ∷ c ∷ text) ≡ Some (0, text) = rw (zero, same) in
    let is : (0, text) ≡ n = same_Some (0, text) n (sym here ∙ h) in
    let P : ℕ × List ℕ → Type 0 = IsSpelled end (b ∷ c ∷ text) in
    let first : b ≡ 48 = eqb-true b 48 zero in
    let second : c ≡ end = eqb-true c end same in
    let none : decimal 0 ≡ 48 ∷ [] = decimal_digit 0 (lit< tt) in
    subst P is (record {
      small = lit< tt;
      spelled = ap (λ x. x ∷ c ∷ text) first ∙ ap (λ x. 48 ∷ x ∷ text) second ∙ ap (λ (d : List ℕ). d ++ end ∷ text) (sym none);
    }))
    (λ (apart : (c == end) ≡ false).
    let none : number_read_at end (b ∷ c ∷ text) ≡ None = rw (zero, apart) in absurd (none-some n (sym none ∙ h)))
    (cases_Bool (c == end))

number_none : (end : ℕ) (n : ℕ × List ℕ) → number_read_at end [] ≡ Some n → IsSpelled end [] n
unfolding number_read_at
number_none end n h = absurd (cc)

number_spelled : (end : ℕ) (text : List ℕ) (n : ℕ × List ℕ) → number_read_at end text ≡ Some n → IsSpelled end text n
number_spelled end [] n h = number_none end n h
number_spelled end (b ∷ text) n h = ⊎_elim (λ zero. number_zero end b text n zero h) (λ some. number_long end b text n some h) (cases_Bool (b == 48))

pub number_sound : (end : ℕ) (text : List ℕ) (n : ℕ × List ℕ) → number_read_at end text ≡ Some n → (n.0 < 2 ^ 64) × (text ≡ decimal n.0 ++ end ∷ n.1)
number_sound end text n h = let is = number_spelled end text n h in (is.small, is.spelled)
