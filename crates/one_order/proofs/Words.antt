-- A write in a list of lists.
use Rattle.std.proofs.Common.{◌≡◌, ◌⊎◌, inl, inr, ⊎_elim, ℕ, ◌<◌, ◌≤◌, List, [], length, Some, sym, ◌∙◌, ap, subst, slice_get, slice_set, set}
use Rattle.std.proofs.Common.{get_or-set_same, get_or-set_other, length-set}
use Rattle.std.proofs.lemmas.Bool.{cases_eq, cases_lt}
use Rattle.std.proofs.lemmas.List.{set_past}
use Rattle.one_order.specs.Observed.{list_at}
use Rattle.one_order.proofs.Lists.{get_set_same, get_set_other}

-- a write in a list of lists
abbrev pub put : {A : Type 0} → List (List A) → ℕ → ℕ → A → List (List A)
put xss p k v = slice_set xss p (slice_set (list_at xss p) k v)

pub put_new : {A : Type 0} (xss : List (List A)) (p k : ℕ) (v : A) → p < length xss → k < length (list_at xss p)
    → slice_get (list_at (put xss p k v) p) k ≡ Some v
put_new xss p k v h l = ap (λ xs. slice_get xs k) (get_or-set_same xss p (set (list_at xss p) k v) [] h) ∙ get_set_same (list_at xss p) k v l

-- elsewhere nothing changes
pub put_other : {A : Type 0} (xss : List (List A)) (p k : ℕ) (v : A) (q j : ℕ) → (q ≡ p → j ≡ k → ⊥)
    → slice_get (list_at (put xss p k v) q) j ≡ slice_get (list_at xss q) j
put_other xss p k v q j h = ⊎_elim
    (λ same. ⊎_elim
    (λ (there : p < length xss).
    ap (λ r. slice_get (list_at (put xss p k v) r) j) same ∙ (ap (λ xs. slice_get xs j) (get_or-set_same xss p (set (list_at xss p) k v) [] there)
    ∙ (get_set_other (list_at xss p) k j v (h same) ∙ ap (λ r. slice_get (list_at xss r) j) (sym same))))
    (λ (past : length xss ≤ p). ap (λ yss. slice_get (list_at yss q) j) (set_past xss p (set (list_at xss p) k v) past))
    (cases_lt p (length xss)))
    (λ other. ap (λ xs. slice_get xs j) (get_or-set_other xss p q (set (list_at xss p) k v) [] other))
    (cases_eq q p)

-- an element after the write is the written one, or was there
pub put_cases : {A : Type 0} (xss : List (List A)) (p k : ℕ) (v : A) (q j : ℕ) (x : A) → p < length xss → k < length (list_at xss p)
    → slice_get (list_at (put xss p k v) q) j ≡ Some x →
    ((q ≡ p) × (j ≡ k) × (v ≡ x)) ⊎ ((q ≡ p → j ≡ k → ⊥) × (slice_get (list_at xss q) j ≡ Some x))
put_cases xss p k v q j x there within h = ⊎_elim
    (λ (same : q ≡ p). ⊎_elim
    (λ (here : j ≡ k).
    let at : slice_get (list_at (put xss p k v) p) k ≡ Some x =
    subst (λ (m : ℕ). slice_get (list_at (put xss p k v) p) m ≡ Some x) here
    (subst (λ (r : ℕ). slice_get (list_at (put xss p k v) r) j ≡ Some x) same h) in
    let new = put_new xss p k v there within in
    let e : v ≡ x = cc in
    inl (same, here, e))
    (λ elsewhere. let no : q ≡ p → j ≡ k → ⊥ = λ _ e. elsewhere e in inr (no, sym (put_other xss p k v q j no) ∙ h))
    (cases_eq j k))
    (λ other. let no : q ≡ p → j ≡ k → ⊥ = λ e _. other e in inr (no, sym (put_other xss p k v q j no) ∙ h))
    (cases_eq q p)

pub length_list_at_put : {A : Type 0} (xss : List (List A)) (p k : ℕ) (v : A) (q : ℕ) → length (list_at (put xss p k v) q) ≡ length (list_at xss q)
length_list_at_put xss p k v q = ⊎_elim
    (λ same. ⊎_elim
    (λ (there : p < length xss). ap (λ r. length (list_at (put xss p k v) r)) same ∙ (ap length (get_or-set_same xss p (set (list_at xss p) k v) [] there)
    ∙ (length-set (list_at xss p) k v ∙ ap (λ r. length (list_at xss r)) (sym same))))
    (λ (past : length xss ≤ p). ap (λ yss. length (list_at yss q)) (set_past xss p (set (list_at xss p) k v) past))
    (cases_lt p (length xss)))
    (λ other. ap length (get_or-set_other xss p q (set (list_at xss p) k v) [] other))
    (cases_eq q p)
