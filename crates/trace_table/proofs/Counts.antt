-- How many rows each processor has.
use Rattle.std.proofs.Common.{◌≡◌, ⊎_elim, ℕ, zero, suc, ◌+◌, ◌<◌, ◌≤◌, ◌==◌, Bool, true, false, List, [], ◌∷◌, ◌++◌, length}
use Rattle.std.proofs.Common.{get_or, slice_get, refl, ap, sym, ◌∙◌, add-zero, arith}
use Rattle.std.specs.Prelude.{if◌then◌else◌, Some}
use Rattle.std.proofs.lemmas.List.Sums.{count_by_more_no, count_by_more_yes}
use Rattle.std.proofs.lemmas.Bool.{cases_lt}
use Rattle.std.proofs.lemmas.Option.{get_or_from_slice_get, slice_get_within}
use Rattle.trace_table.specs.declared.row.TableRow.{TableRow}
use Rattle.trace_table.specs.Text.{own_index}

-- a row of a number
pub row_there : (rows : List TableRow) (i : ℕ) → i < length rows → (row : TableRow) × (slice_get rows i ≡ Some row)
row_there [] i low = absurd (omega arith)
row_there (row ∷ rows) zero low = (row, refl)
row_there (row ∷ rows) (suc i) low = row_there rows i (omega arith)

-- one row more
own_next_by : (rows : List TableRow) (i : ℕ) (d : TableRow) (p : ℕ) (b : Bool) → i < length rows → ((get_or rows i d).processor == p) ≡ b
    → own_index rows p (i + 1) ≡ own_index rows p i + (if b then 1 else 0)
own_next_by rows i d p true low is = count_by_more_yes (λ row. row.processor == p) rows i d low is
own_next_by rows i d p false low is = count_by_more_no (λ row. row.processor == p) rows i d low is ∙ sym (add-zero (own_index rows p i))

pub own_next : (rows : List TableRow) (i p k : ℕ) (row : TableRow) → slice_get rows i ≡ Some row → k ≡ row.processor
    → own_index rows p (i + 1) ≡ own_index rows p i + (if k == p then 1 else 0)
own_next rows i p k row there is =
    let found : get_or rows i row ≡ row = get_or_from_slice_get rows i row row there in
    let test : ((get_or rows i row).processor == p) ≡ (k == p) = ap (λ (r : TableRow). r.processor == p) found ∙ ap (λ (n : ℕ). n == p) (sym is) in
    own_next_by rows i row p (k == p) (slice_get_within rows i row there) test

-- an element of a list that goes on
pub get_front : {X : Type 0} (xs ys : List X) (k : ℕ) (x : X) → slice_get xs k ≡ Some x → slice_get (xs ++ ys) k ≡ Some x
get_front [] ys k x h = cc
get_front (z ∷ xs) ys zero x h = h
get_front (z ∷ xs) ys (suc k) x h = get_front xs ys k x h

-- the last one
pub get_last : {X : Type 0} (xs : List X) (y : X) → slice_get (xs ++ y ∷ []) (length xs) ≡ Some y
get_last [] y = refl
get_last (z ∷ xs) y = get_last xs y

-- one index more
pub each_next : (rows : List TableRow) (indexes : List ℕ) (i x k : ℕ) (row : TableRow) → length indexes ≡ i
    → slice_get rows i ≡ Some row → k ≡ row.processor → x ≡ own_index rows k i
    → ((number : ℕ) (other : TableRow) → number < i → slice_get rows number ≡ Some other
    → slice_get indexes number ≡ Some (own_index rows other.processor number))
    → (number : ℕ) (other : TableRow) → number < i + 1 → slice_get rows number ≡ Some other
    → slice_get (indexes ++ x ∷ []) number ≡ Some (own_index rows other.processor number)
each_next rows indexes i x k row long found is count each number other below there = ⊎_elim
    (λ (before : number < i). get_front indexes (x ∷ []) number (own_index rows other.processor number) (each number other before there))
    (λ (after : i ≤ number).
    let here : number ≡ i = omega arith in
    let same : row ≡ other = sym (get_or_from_slice_get rows i row row found) ∙ get_or_from_slice_get rows i other row (ap (slice_get rows) (sym here) ∙ there) in
    let value : x ≡ own_index rows other.processor number =
    count ∙ ap (λ (n : ℕ). own_index rows n i) (is ∙ ap (λ (r : TableRow). r.processor) same) ∙ ap (own_index rows other.processor) (sym here) in
    let last : slice_get (indexes ++ x ∷ []) number ≡ Some x = ap (slice_get (indexes ++ x ∷ [])) (here ∙ sym long) ∙ get_last indexes x in
    last ∙ ap Some value)
    (cases_lt number i)
