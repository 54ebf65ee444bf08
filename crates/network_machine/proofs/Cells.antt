-- Cells of pairs that are marked, one after the other.
use Rattle.std.proofs.Common.{◌≡◌, ◌≢◌, ⊎_elim, ℕ, ◌+◌, ◌-◌, ◌<◌, zero, suc, Bool, true, false, List, [], ◌∷◌, ◌++◌, Vec, length, map, set, take, get_or, refl, sym, ◌∙◌, ap, subst, arith, replicate}
use Rattle.std.specs.Prelude.{◌==◌, ◌&&◌, ◌||◌}
use Rattle.std.specs.List.{list_any}
use Rattle.std.proofs.lemmas.Bool.{cases_eq, cases_lt, ne_eqb, eq-eqb, and_left, and_right}
use Rattle.std.proofs.lemmas.List.{length-set, get_or-set_same, get_or-set_other, get_or-map, map-set, map-append, get_or_past, get_or_append_left, get_or-append_right, get_or-replicate, length-replicate}
use Rattle.std.proofs.lemmas.List.Folds.{list_any_more}
use Rattle.network_judge.specs.declared.table.Join.{Join}
use Rattle.network_machine.specs.Pairs.{cells_of, row_of, is_marked, cell_marked, NoPairs, ArePairs}

or_none : (w t : Bool) → t ≡ false → w ≡ (w || t)
or_none true t e = refl
or_none false t e = sym e

or_one : (w t : Bool) → t ≡ true → true ≡ (w || t)
or_one true t e = refl
or_one false t e = sym e

-- a row of which one cell is marked
cell_set : (row : List Bool) (c y : ℕ) → y < length row → get_or (set row c true) y false ≡ (get_or row y false || (c == y))
cell_set row c y here = ⊎_elim
    (λ (e : y ≡ c). subst (λ k. get_or (set row c true) k false ≡ (get_or row k false || (c == k))) (sym e)
    (get_or-set_same row c true false (subst (λ k. k < length row) e here) ∙ or_one (get_or row c false) (c == c) (eq-eqb c c refl)))
    (λ (apart : y ≢ c). get_or-set_other row c y true false apart ∙ or_none (get_or row y false) (c == y) (ne_eqb c y (λ e. apart (sym e))))
    (cases_eq y c)

-- what a cell says once that of a pair is marked
pub marked : (cells : List (List Bool)) (a c x y : ℕ) → y < length (row_of (cell_marked cells a c) x)
    → (y < length (row_of cells x)) × (is_marked (cell_marked cells a c) x y ≡ (is_marked cells x y || ((a == x) && (c == y))))
marked cells a c x y here = ⊎_elim same other (cases_eq x a)
  where
    row : List Bool
    row = set (row_of cells a) c true

    other : x ≢ a → (y < length (row_of cells x)) × (is_marked (cell_marked cells a c) x y ≡ (is_marked cells x y || ((a == x) && (c == y))))
    other apart =
        (let is : row_of (cell_marked cells a c) x ≡ row_of cells x = get_or-set_other cells a x row [] apart in (
          subst (λ (r : List Bool). y < length r) is here,
          ap (λ (r : List Bool). get_or r y false) is ∙ or_none (is_marked cells x y) ((a == x) && (c == y)) (and_left (a == x) (c == y) (ne_eqb a x (λ e. apart (sym e)))),
        ))

    at : a < length cells → x ≡ a → (y < length (row_of cells x)) × (is_marked (cell_marked cells a c) x y ≡ (is_marked cells x y || ((a == x) && (c == y))))
    at low e =
        (let is : row_of (cell_marked cells a c) x ≡ row = ap (row_of (cell_marked cells a c)) e ∙ get_or-set_same cells a row [] low in
        let within : y < length (row_of cells a) = subst (λ n. y < n) (length-set (row_of cells a) c true) (subst (λ (r : List Bool). y < length r) is here) in (
          subst (λ k. y < length (row_of cells k)) (sym e) within,
          ap (λ (r : List Bool). get_or r y false) is ∙ (cell_set (row_of cells a) c y within
              ∙ (ap (λ k. is_marked cells k y || (c == y)) (sym e) ∙ ap (λ b. is_marked cells x y || (b && (c == y))) (sym (eq-eqb a x (sym e))))),
        ))

    same : x ≡ a → (y < length (row_of cells x)) × (is_marked (cell_marked cells a c) x y ≡ (is_marked cells x y || ((a == x) && (c == y))))
    same e = ⊎_elim (λ low. at low e)
        (λ high. (let none : row_of (cell_marked cells a c) x ≡ [] =
        ap (row_of (cell_marked cells a c)) e ∙ get_or_past (cell_marked cells a c) a [] (let long = length-set cells a row in omega (arith, long, high)) in
        let past : y < 0 = subst (λ (r : List Bool). y < length r) none here in absurd (omega (arith, past))))
        (cases_lt a (length cells))

-- one pair more
pub pairs_more : (joins : List Join) (k : ℕ) (d : Join) (old new : List (List Bool)) → k < length joins → ArePairs (take k joins) old
    → new ≡ cell_marked old (get_or joins k d).from (get_or joins k d).to → ArePairs (take (k + 1) joins) new
pairs_more joins k d old new low are is x y here =
    (let pair : Join = get_or joins k d in
    let m = marked old pair.from pair.to x y (subst (λ (cells : List (List Bool)). y < length (row_of cells x)) is here) in
    ap (λ (cells : List (List Bool)). is_marked cells x y) is
    ∙ (m.1 ∙ (ap (λ (b : Bool). b || ((pair.from == x) && (pair.to == y))) (are x y m.0)
    ∙ sym (list_any_more (λ (p : Join). p.from == x && p.to == y) joins k d low))))

-- the cells of rows of which one is marked
pub cells_edit : {A : Type 0} (rows : List (Vec Bool A)) (x y : ℕ) (v d : Vec Bool A) → x < length rows → v.items ≡ set (get_or rows x d).items y true
    → cells_of (set rows x v) ≡ cell_marked (cells_of rows) x y
cells_edit {A} rows x y v d here is =
    map-set (λ (row : Vec Bool A). row.items) rows x v
    ∙ ap (set (cells_of rows) x) (is ∙ ap (λ (row : List Bool). set row y true) (sym (get_or-map (λ (row : Vec Bool A). row.items) rows x d [] here)))

none_in : (n y : ℕ) → get_or (replicate n false) y false ≡ false
none_in n y = ⊎_elim (λ low. get_or-replicate n y false false low)
    (λ high. get_or_past (replicate n false) y false (let long = length-replicate n false in omega (arith, long, high))) (cases_lt y n)

none_of_one : (row : List Bool) (y : ℕ) → get_or row y false ≡ false → (i : ℕ) → get_or (get_or (row ∷ []) i []) y false ≡ false
none_of_one row y none zero = none
none_of_one row y none (suc i) = refl

no_more : (cells : List (List Bool)) (n : ℕ) → NoPairs cells → NoPairs (cells ++ replicate n false ∷ [])
no_more cells n none x y = ⊎_elim
    (λ low. ap (λ (row : List Bool). get_or row y false) (get_or_append_left cells (replicate n false ∷ []) [] x low) ∙ none x y)
    (λ high. ap (λ (row : List Bool). get_or row y false) (get_or-append_right cells (replicate n false ∷ []) (length cells) x [] refl high)
    ∙ none_of_one (replicate n false) y (none_in n y) (x - length cells))
    (cases_lt x (length cells))

-- one row more without a mark
pub no_pairs_more : {A : Type 0} (old new : List (Vec Bool A)) (v : Vec Bool A) (n : ℕ) → NoPairs (cells_of old) → new ≡ old ++ v ∷ [] → v.items ≡ replicate n false
    → NoPairs (cells_of new)
no_pairs_more {A} old new v n none more is =
    subst NoPairs (sym (ap cells_of more ∙ (map-append (λ (row : Vec Bool A). row.items) old (v ∷ []) ∙ ap (λ (row : List Bool). cells_of old ++ row ∷ []) is)))
    (no_more (cells_of old) n none)
