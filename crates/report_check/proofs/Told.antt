-- The words that are not 0, up to an address.
use Rattle.std.proofs.Common.{◌≡◌, ◌≢◌, ◌≤◌, ◌<◌, ℕ, zero, suc, ◌+◌, ◌-◌, ◌==◌, not, List, [], ◌∷◌, ◌++◌, true, false, length, take, get_or, filter}
use Rattle.std.proofs.Common.{slice_index, sym, ap, ◌∙◌, arith, ⊎_elim}
use Rattle.std.specs.List.{enumerate_from}
use Rattle.std.proofs.lemmas.Bool.{cases_lt, eq-eqb, ne_eqb}
use Rattle.std.proofs.lemmas.List.{append-nil, length-take-le, take_all, take_more}
use Rattle.std.proofs.lemmas.List.Elements.{filter-append}
use Rattle.report_lines.specs.Contents.{set_words}

enumerate_from-push : (n : ℕ) (xs : List ℕ) (x : ℕ) → enumerate_from n (xs ++ x ∷ []) ≡ enumerate_from n xs ++ (n + length xs, x) ∷ []
enumerate_from-push n [] x = let none : n ≡ n + 0 = omega arith in ap (λ k. (k, x) ∷ []) none
enumerate_from-push n (y ∷ xs) x =
    let one : n + 1 + length xs ≡ n + suc (length xs) = omega arith in
    ap (λ ps. (n, y) ∷ ps) (enumerate_from-push (n + 1) xs x ∙ ap (λ k. enumerate_from (n + 1) xs ++ (k, x) ∷ []) one)

-- one more word
set_words-more : (m : List ℕ) (a : ℕ) → a < length m
    → set_words (take (a + 1) m) ≡ set_words (take a m) ++ filter (λ w. not (w.1 == 0)) ((a, get_or m a 0) ∷ [])
set_words-more m a inside =
    let is : 0 + length (take a m) ≡ a = omega (arith, length-take-le a m (omega (arith, inside))) in
    ap set_words (take_more m a 0 inside)
    ∙ ap (λ (ps : List (ℕ × ℕ)). filter (λ w. not (w.1 == 0)) ps)
    (enumerate_from-push 0 (take a m) (get_or m a 0) ∙ ap (λ k. enumerate_from 0 (take a m) ++ (k, get_or m a 0) ∷ []) is)
    ∙ filter-append (λ w. not (w.1 == 0)) (enumerate_from 0 (take a m)) ((a, get_or m a 0) ∷ [])

pub set_words-push : (m : List ℕ) (a v : ℕ) → a < length m → slice_index m a ≡ v → 0 < v → set_words (take a m) ++ (a, v) ∷ [] ≡ set_words (take (a + 1) m)
set_words-push m a v inside is some =
    let apart : get_or m a 0 ≢ 0 = λ h. absurd (omega (arith, h, is, some)) in
    let test : (get_or m a 0 == 0) ≡ false = ne_eqb (get_or m a 0) 0 apart in
    let kept : filter (λ w. not (w.1 == 0)) ((a, get_or m a 0) ∷ []) ≡ (a, get_or m a 0) ∷ [] = rw test in
    sym (set_words-more m a inside ∙ ap (λ (ps : List (ℕ × ℕ)). set_words (take a m) ++ ps) kept ∙ ap (λ w. set_words (take a m) ++ (a, w) ∷ []) is)

-- words that are 0 are left out
set_words-zero : (m : List ℕ) (a : ℕ) → slice_index m a ≡ 0 → set_words (take (a + 1) m) ≡ set_words (take a m)
set_words-zero m a blank =
    let test : (get_or m a 0 == 0) ≡ true = eq-eqb (get_or m a 0) 0 blank in
    let none : filter (λ (w : ℕ × ℕ). not (w.1 == 0)) ((a, get_or m a 0) ∷ []) ≡ [] = rw test in
    ⊎_elim
    (λ (inside : a < length m). set_words-more m a inside ∙ ap (λ (ps : List (ℕ × ℕ)). set_words (take a m) ++ ps) none ∙ append-nil (set_words (take a m)))
    (λ (past : length m ≤ a). ap set_words (take_all (a + 1) m (omega (arith, past)) ∙ sym (take_all a m past)))
    (cases_lt a (length m))

zeros_on : (m : List ℕ) (n k : ℕ) → ((i : ℕ) → n ≤ i → i < n + k → slice_index m i ≡ 0) → set_words (take (n + k) m) ≡ set_words (take n m)
zeros_on m n zero all = let none : n + 0 ≡ n = omega arith in ap (λ i. set_words (take i m)) none
zeros_on m n (suc k) all =
    let one : n + suc k ≡ n + k + 1 = omega arith in
    ap (λ i. set_words (take i m)) one
    ∙ set_words-zero m (n + k) (all (n + k) (omega arith) (omega arith))
    ∙ zeros_on m n k (λ i low high. all i low (omega (arith, high)))

pub set_words-zeros : (m : List ℕ) (n a : ℕ) → n ≤ a → ((i : ℕ) → n ≤ i → i < a → slice_index m i ≡ 0) → set_words (take a m) ≡ set_words (take n m)
set_words-zeros m n a low all =
    let is : n + (a - n) ≡ a = omega (arith, low) in
    ap (λ i. set_words (take i m)) (sym is) ∙ zeros_on m n (a - n) (λ i least high. all i least (omega (arith, high, low)))
