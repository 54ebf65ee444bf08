-- The first number that passes a test, and the first dimension in which two tiles' digits differ.
use Rattle.std.proofs.Common.{◌≡◌, ◌≢◌, ℕ, ◌+◌, ◌<◌, zero, suc, Bool, true, false, cond, not, Option, None, Some, [], ◌∷◌, refl, sym, ◌∙◌, ap, subst, arith}
use Rattle.std.proofs.Common.{inl, inr}
use Rattle.std.specs.Prelude.{find, ◌==◌}
use Rattle.std.specs.Option.{option_or}
use Rattle.std.specs.List.{range_with_len}
use Rattle.std.proofs.lemmas.Bool.{cases_eq, ne_eqb, eq-eqb}
use Rattle.std.proofs.lemmas.List.Folds.{find-append}
use Rattle.torus.specs.Shape.{Shape, dims_of, digit_of, radix_of}
use Rattle.dateline_route.specs.Next.{next_of, output_in, hop_to, first_apart}
use Rattle.dateline_route.specs.Walk.{IsInside, kind_of}
use Rattle.dateline_route.specs.Ring.{shorter_way}
use Rattle.dateline_route.specs.declared.channel.Input.{Input}
use Rattle.dateline_route.specs.declared.channel.Output.TheVariants.{Eject}
use Rattle.dateline_route.proofs.Rings.{range_more}

one_more : (p : ℕ → Bool) (n : ℕ) → find p (range_with_len 0 (n + 1)) ≡ option_or (find p (range_with_len 0 n)) (find p (n ∷ []))
one_more p n = ap (find p) (range_more 0 n n (omega arith)) ∙ find-append p (range_with_len 0 n) (n ∷ [])

-- none passes of one more
pub find_none_more : (p : ℕ → Bool) (n : ℕ) → find p (range_with_len 0 n) ≡ None → p n ≡ false → find p (range_with_len 0 (n + 1)) ≡ None
find_none_more p n none fails = one_more p n ∙ ap (λ o. option_or o (find p (n ∷ []))) none ∙ (rw fails refl)

find_same : (p : ℕ → Bool) (n d : ℕ) → find p (range_with_len 0 n) ≡ Some d → find p (range_with_len 0 (n + 1)) ≡ Some d
find_same p n d found = one_more p n ∙ ap (λ o. option_or o (find p (n ∷ []))) found

find_new : (p : ℕ → Bool) (n : ℕ) → find p (range_with_len 0 n) ≡ None → p n ≡ true → find p (range_with_len 0 (n + 1)) ≡ Some n
find_new p n none passes = one_more p n ∙ ap (λ o. option_or o (find p (n ∷ []))) none ∙ (rw passes refl)

-- the first that passes is found in every longer range
pub find_first : (p : ℕ → Bool) (d n : ℕ) → d < n → find p (range_with_len 0 d) ≡ None → p d ≡ true → find p (range_with_len 0 n) ≡ Some d
find_first p d zero low none passes = absurd (omega arith)
find_first p d (suc n) low none passes =
    let P : ℕ → Type 0 = λ m. find p (range_with_len 0 m) ≡ Some d in
    let next : n + 1 ≡ suc n = omega arith in
    subst P next (elim (cases_eq d n) [
      | inl same ↦ (rw (← same) (find_new p d none passes))
      | inr other ↦ find_same p n d (find_first p d n (omega arith) none passes)
    ])

pub find_none : (p : ℕ → Bool) (n : ℕ) → ((d : ℕ) → d < n → p d ≡ false) → find p (range_with_len 0 n) ≡ None
find_none p zero fails = refl
find_none p (suc n) fails =
    let P : ℕ → Type 0 = λ m. find p (range_with_len 0 m) ≡ None in
    let next : n + 1 ≡ suc n = omega arith in
    subst P next (find_none_more p n (find_none p n (λ d low. fails d (omega arith))) (fails n (omega arith)))

found_by : (n d : ℕ) (o : Option ℕ) (bit : Bool) → ((m : ℕ) → o ≡ Some m → m < n) → option_or o (cond bit (Some n) None) ≡ Some d → d < suc n
found_by n d None true h e = let same : n ≡ d = cc in omega arith
found_by n d None false h e = cc
found_by n d (Some m) bit h e = let low = h m refl in let same : m ≡ d = cc in omega arith

-- what is found below a number is below it
pub find_in : (p : ℕ → Bool) (n d : ℕ) → find p (range_with_len 0 n) ≡ Some d → d < n
find_in p zero d e = cc
find_in p (suc n) d e =
    let next : n + 1 ≡ suc n = omega arith in
    found_by n d (find p (range_with_len 0 n)) (p n) (find_in p n) (sym (ap (λ m. find p (range_with_len 0 m)) (sym next) ∙ one_more p n) ∙ e)

-- whether two digits differ
abbrev pub apart : Shape → ℕ → ℕ → ℕ → Bool
apart s t dst d = not (digit_of s t d == digit_of s dst d)

apart_false : (s : Shape) (t dst d : ℕ) → digit_of s t d ≡ digit_of s dst d → apart s t dst d ≡ false
apart_false s t dst d same = ap not (eq-eqb (digit_of s t d) (digit_of s dst d) same)

apart_true : (s : Shape) (t dst d : ℕ) → digit_of s t d ≢ digit_of s dst d → apart s t dst d ≡ true
apart_true s t dst d other = ap not (ne_eqb (digit_of s t d) (digit_of s dst d) other)

-- where the digits below d agree and digit d differs, the next output is a hop in d
pub next_hops : (s : Shape) (t : ℕ) (came : Input) (dst d : ℕ) → d < dims_of s → ((e : ℕ) → e < d → digit_of s t e ≡ digit_of s dst e)
    → digit_of s t d ≢ digit_of s dst d →
    next_of s t came dst ≡ hop_to s t came d (shorter_way (radix_of s d) (digit_of s t d) (digit_of s dst d))
next_hops s t came dst d low same other =
    ap (output_in s t came dst)
    (find_first (apart s t dst) d (dims_of s) low (find_none (apart s t dst) d (λ e under. apart_false s t dst e (same e under)))
    (apart_true s t dst d other))

-- where all digits agree, it is ejection
pub next_ejects : (s : Shape) (t : ℕ) (came : Input) (dst : ℕ) → ((e : ℕ) → e < dims_of s → digit_of s t e ≡ digit_of s dst e) → next_of s t came dst ≡ Eject
next_ejects s t came dst same =
    ap (output_in s t came dst) (find_none (apart s t dst) (dims_of s) (λ e under. apart_false s t dst e (same e under)))

-- a router's choice is in one of the torus's dimensions
chosen_in : (s : Shape) (t : ℕ) (came : Input) (dst : ℕ) (d : Option ℕ) → ((m : ℕ) → d ≡ Some m → m < dims_of s)
    → IsInside s (kind_of (output_in s t came dst d))
chosen_in s t came dst None h = tt
chosen_in s t came dst (Some d) h = h d refl

pub chosen_inside : (s : Shape) (t : ℕ) (came : Input) (dst : ℕ) → IsInside s (kind_of (next_of s t came dst))
chosen_inside s t came dst = chosen_in s t came dst (first_apart s t dst) (find_in (apart s t dst) (dims_of s))
