-- Sets of words that are listed.
use Rattle.std.proofs.Common.{Result, Ok, Err, subst, ◌≡◌, ⊎_elim, ℕ, suc, true, false, ◌<◌, ◌≤◌, ◌==◌, List, [], ◌∷◌, length, refl, sym, ◌∙◌, ap, arith, get_or, eq-eqb}
use Rattle.std.specs.List.Sorted.{IsBinarySearchResult, IsNonDecreasing}
use Rattle.std.specs.Ordering.{nat_cmp}
use Rattle.std.proofs.lemmas.List.Sorted.{searched}
use Rattle.std.proofs.lemmas.Bool.{cases_Bool, cases_lt, eqb-true}
use Rattle.std.proofs.lemmas.List.Folds.{list_any_at}
use Rattle.trace_zones.specs.Zones.{AreApartSets, is_listed}

-- a listed word is in the set
pub among_found : (xs : List ℕ) (x i : ℕ) → i < length xs → get_or xs i 0 ≡ x → is_listed xs x ≡ true
among_found xs x i l e = list_any_at (λ v. v == x) xs i 0 l (eq-eqb (get_or xs i 0) x e)

-- one that isn't listed is outside
pub among_none : (xs : List ℕ) (x : ℕ) → ((k : ℕ) → k < length xs → get_or xs k 0 ≡ x → ⊥) → is_listed xs x ≡ false
among_none [] x none = refl
among_none (y ∷ ys) x none = ⊎_elim {C = is_listed (y ∷ ys) x ≡ false}
    (λ (same : (y == x) ≡ true). absurd (none 0 (omega arith) (eqb-true y x same)))
    (λ (other : (y == x) ≡ false). rw other
    (among_none ys x (λ k l e. none (suc k) (omega arith) e)))
    (cases_Bool (y == x))

-- what a search among words that rise says
pub listed_where_found : (xs : List ℕ) (x i : ℕ) (r : Result ℕ ℕ) → r ≡ Ok i → IsBinarySearchResult (λ y. nat_cmp y x) xs r
    → IsNonDecreasing xs → is_listed xs x ≡ true
listed_where_found xs x i r e is up =
    let f = searched xs x (Ok i)
    (subst (λ (q : Result ℕ ℕ). IsBinarySearchResult (λ y. nat_cmp y x) xs q) e is) (λ j k l m. up j k 0 l m) in
    among_found xs x i f.0 f.1

pub unlisted_where_none : (xs : List ℕ) (x i : ℕ) (r : Result ℕ ℕ) → r ≡ Err i
    → IsBinarySearchResult (λ y. nat_cmp y x) xs r → IsNonDecreasing xs → is_listed xs x ≡ false
unlisted_where_none xs x i r e is up =
    let f = searched xs x (Err i)
    (subst (λ (q : Result ℕ ℕ). IsBinarySearchResult (λ y. nat_cmp y x) xs q) e is) (λ j k l m. up j k 0 l m) in
    among_none xs x (λ k l same. ⊎_elim {C = ⊥}
    (λ (low : k < i). let less = f.1 k low in omega arith)
    (λ (high : i ≤ k). let more = f.2 k high l in omega arith)
    (cases_lt k i))

-- a word of the set is listed
pub among_at : (xs : List ℕ) (x : ℕ) → is_listed xs x ≡ true → (k : ℕ) × (k < length xs) × (get_or xs k 0 ≡ x)
among_at [] x is = cc
among_at (y ∷ ys) x is = ⊎_elim {C = (k : ℕ) × (k < length (y ∷ ys)) × (get_or (y ∷ ys) k 0 ≡ x)}
    (λ (same : (y == x) ≡ true). (0, (omega arith), eqb-true y x same))
    (λ (other : (y == x) ≡ false).
    let rest : is_listed ys x ≡ true = cc in
    let r = among_at ys x rest in
    let less = r.1 in
    (suc r.0, (omega arith), r.2))
    (cases_Bool (y == x))

-- where no word of the one is in the other the two are apart
pub apart_all : (one other : List ℕ) (n : ℕ) → length one ≤ n
    → ((k : ℕ) → k < n → is_listed other (get_or one k 0) ≡ false) → AreApartSets (is_listed one) (is_listed other)
apart_all one other n all none u is =
    let r = among_at one u is in
    let less = r.1 in
    ap (is_listed other) (sym r.2) ∙ none r.0 (omega arith)
