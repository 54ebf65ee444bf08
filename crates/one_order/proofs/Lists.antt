-- Lists, and lists of lists, that grow at their ends.
use Rattle.std.proofs.Common.{◌≡◌, ◌≢◌, ◌⊎◌, inl, inr, ⊎_elim, ℕ, zero, suc, ◌+◌, ◌<◌, ◌≤◌, ◌==◌, cond, List, [], ◌∷◌, ◌++◌, length, Some, None, refl, sym}
use Rattle.std.proofs.Common.{◌∙◌, ap, arith, slice_get, set, get_or-set_same, get_or-set_other, length-set, eq-eqb, replicate}
use Rattle.std.proofs.lemmas.Bool.{cases_eq, cases_lt, ne_eqb}
use Rattle.std.proofs.lemmas.List.{set_past, length_push, get_or-replicate, get_or_past, length-replicate}
use Rattle.one_order.specs.Observed.{list_at, total}
use Rattle.one_order.specs.Events.{push_at}

pub get_push_cases : {A : Type 0} (xs : List A) (y : A) (k : ℕ) (x : A) → slice_get (xs ++ y ∷ []) k ≡ Some x
    → (slice_get xs k ≡ Some x) ⊎ ((k ≡ length xs) × (y ≡ x))
get_push_cases [] y zero x h = inr (refl, cc)
get_push_cases [] y (suc k) x h = cc
get_push_cases (z ∷ xs) y zero x h = inl h
get_push_cases (z ∷ xs) y (suc k) x h = ⊎_elim (λ l. inl l) (λ r. inr (ap suc r.0, r.1)) (get_push_cases xs y k x h)

pub get_append_left : {A : Type 0} (xs ys : List A) (k : ℕ) (x : A) → slice_get xs k ≡ Some x → slice_get (xs ++ ys) k ≡ Some x
get_append_left [] ys k x h = cc
get_append_left (z ∷ xs) ys zero x h = h
get_append_left (z ∷ xs) ys (suc k) x h = get_append_left xs ys k x h

pub get_push : {A : Type 0} (xs : List A) (y : A) → slice_get (xs ++ y ∷ []) (length xs) ≡ Some y
get_push [] y = refl
get_push (z ∷ xs) y = get_push xs y

-- one place has one element
pub same_get : {A : Type 0} (xs : List A) (k : ℕ) (x y : A) → slice_get xs k ≡ Some x → slice_get xs k ≡ Some y → x ≡ y
same_get xs k x y h i = cc

pub within_length : {A : Type 0} (xs : List A) (k : ℕ) → k < length xs → (x : A) × (slice_get xs k ≡ Some x)
within_length [] k h = absurd (omega arith)
within_length (x ∷ xs) zero h = (x, refl)
within_length (x ∷ xs) (suc k) h = within_length xs k (omega arith)

pub list_at_push_same : {A : Type 0} (xss : List (List A)) (p : ℕ) (x : A) → p < length xss → list_at (push_at xss p x) p ≡ list_at xss p ++ x ∷ []
list_at_push_same xss p x h = get_or-set_same xss p (list_at xss p ++ x ∷ []) [] h

pub list_at_push_other : {A : Type 0} (xss : List (List A)) (p q : ℕ) (x : A) → q ≢ p → list_at (push_at xss p x) q ≡ list_at xss q
list_at_push_other xss p q x h = get_or-set_other xss p q (list_at xss p ++ x ∷ []) [] h

-- an element of a pushed list was there before, or is the new one
pub push_at_cases : {A : Type 0} (xss : List (List A)) (p : ℕ) (x : A) (q k : ℕ) (y : A) → slice_get (list_at (push_at xss p x) q) k ≡ Some y →
    (slice_get (list_at xss q) k ≡ Some y) ⊎ ((q ≡ p) × (k ≡ length (list_at xss p)) × (x ≡ y))
push_at_cases xss p x q k y h = ⊎_elim
    (λ same. ⊎_elim
    (λ (there : p < length xss).
    let e : list_at (push_at xss p x) q ≡ list_at xss p ++ x ∷ [] = ap (list_at (push_at xss p x)) same ∙ list_at_push_same xss p x there in
    ⊎_elim
    (λ l. inl (ap (λ r. slice_get (list_at xss r) k) same ∙ l))
    (λ r. inr (same, r.0, r.1))
    (get_push_cases (list_at xss p) x k y (ap (λ xs. slice_get xs k) (sym e) ∙ h)))
    (λ (past : length xss ≤ p). inl (ap (λ yss. slice_get (list_at yss q) k) (sym (set_past xss p (list_at xss p ++ x ∷ []) past)) ∙ h))
    (cases_lt p (length xss)))
    (λ other. inl (ap (λ xs. slice_get xs k) (sym (list_at_push_other xss p q x other)) ∙ h))
    (cases_eq q p)

pub push_at_keeps : {A : Type 0} (xss : List (List A)) (p : ℕ) (x : A) (q k : ℕ) (y : A) → slice_get (list_at xss q) k ≡ Some y
    → slice_get (list_at (push_at xss p x) q) k ≡ Some y
push_at_keeps xss p x q k y h = ⊎_elim
    (λ same. ⊎_elim
    (λ (there : p < length xss).
    let e : list_at (push_at xss p x) q ≡ list_at xss p ++ x ∷ [] = ap (list_at (push_at xss p x)) same ∙ list_at_push_same xss p x there in
    ap (λ xs. slice_get xs k) e ∙ get_append_left (list_at xss p) (x ∷ []) k y (ap (λ r. slice_get (list_at xss r) k) (sym same) ∙ h))
    (λ (past : length xss ≤ p). ap (λ yss. slice_get (list_at yss q) k) (set_past xss p (list_at xss p ++ x ∷ []) past) ∙ h)
    (cases_lt p (length xss)))
    (λ other. ap (λ xs. slice_get xs k) (list_at_push_other xss p q x other) ∙ h)
    (cases_eq q p)

pub push_at_new : {A : Type 0} (xss : List (List A)) (p : ℕ) (x : A) → p < length xss
    → slice_get (list_at (push_at xss p x) p) (length (list_at xss p)) ≡ Some x
push_at_new xss p x h = ap (λ xs. slice_get xs (length (list_at xss p))) (list_at_push_same xss p x h) ∙ get_push (list_at xss p) x

pub length-push_at : {A : Type 0} (xss : List (List A)) (p : ℕ) (x : A) → length (push_at xss p x) ≡ length xss
length-push_at xss p x = length-set xss p (list_at xss p ++ x ∷ [])

pub length_list_at_push : {A : Type 0} (xss : List (List A)) (p : ℕ) (x : A) (q : ℕ) → p < length xss
    → length (list_at (push_at xss p x) q) ≡ length (list_at xss q) + cond (p == q) 1 0
length_list_at_push xss p x q there = ⊎_elim
    (λ same. ap (λ r. length (list_at (push_at xss p x) r)) same ∙ (ap length (list_at_push_same xss p x there) ∙ (length_push (list_at xss p) x
    ∙ (ap (λ r. length (list_at xss r) + 1) (sym same) ∙ sym (ap (λ b. length (list_at xss q) + cond b 1 0) (eq-eqb p q (sym same)))))))
    (λ other. ap length (list_at_push_other xss p q x other) ∙ (let e : length (list_at xss q) ≡ length (list_at xss q) + 0 = omega arith in
    e ∙ sym (ap (λ b. length (list_at xss q) + cond b 1 0) (ne_eqb p q (λ e. other (sym e))))))
    (cases_eq q p)

pub length_list_at_push_grows : {A : Type 0} (xss : List (List A)) (p : ℕ) (x : A) (q : ℕ) → length (list_at xss q) ≤ length (list_at (push_at xss p x) q)
length_list_at_push_grows xss p x q = ⊎_elim
    (λ (there : p < length xss). let e = length_list_at_push xss p x q there in omega arith)
    (λ (past : length xss ≤ p). let e = ap (λ yss. length (list_at yss q)) (set_past xss p (list_at xss p ++ x ∷ []) past) in omega arith)
    (cases_lt p (length xss))

pub list_at_none : {A : Type 0} (n p : ℕ) → list_at {A = A} (replicate n []) p ≡ []
list_at_none n p = ⊎_elim (λ (l : p < n). get_or-replicate n p [] [] l) (λ (g : n ≤ p). get_or_past (replicate n []) p [] (rw length-replicate g))
    (cases_lt p n)

-- where a list has an element, there is a list
pub list_within : {A : Type 0} (xss : List (List A)) (p k : ℕ) (x : A) → slice_get (list_at xss p) k ≡ Some x → p < length xss
list_within xss p k x h = ⊎_elim
    (λ (there : p < length xss). there)
    (λ (past : length xss ≤ p). let e : None ≡ Some x = sym (ap (λ xs. slice_get xs k) (get_or_past xss p [] past)) ∙ h in cc)
    (cases_lt p (length xss))

pub total_push : {A : Type 0} (xss : List (List A)) (p : ℕ) (x : A) → p < length xss → total (push_at xss p x) ≡ total xss + 1
total_push [] p x h = absurd (omega arith)
total_push (xs ∷ xss) zero x h = omega (arith, length_push xs x)
total_push (xs ∷ xss) (suc p) x h = omega (arith, total_push xss p x (omega arith))

pub total_none : (A : Type 0) (n : ℕ) → total {A = A} (replicate n []) ≡ 0
total_none A zero = refl
total_none A (suc n) = omega (arith, total_none A n)

pub get_set_same : {A : Type 0} (xs : List A) (k : ℕ) (v : A) → k < length xs → slice_get (set xs k v) k ≡ Some v
get_set_same [] k v h = absurd (omega arith)
get_set_same (x ∷ xs) zero v h = refl
get_set_same (x ∷ xs) (suc k) v h = get_set_same xs k v (omega arith)

pub get_set_other : {A : Type 0} (xs : List A) (k j : ℕ) (v : A) → j ≢ k → slice_get (set xs k v) j ≡ slice_get xs j
get_set_other [] k j v h = refl
get_set_other (x ∷ xs) zero zero v h = absurd (h refl)
get_set_other (x ∷ xs) zero (suc j) v h = refl
get_set_other (x ∷ xs) (suc k) zero v h = refl
get_set_other (x ∷ xs) (suc k) (suc j) v h = get_set_other xs k j v (λ e. h (ap suc e))
