-- Elements of lists, and the answers of a trace.
use Rattle.std.proofs.Common.{◌≡◌, ◌≢◌, ◌⊎◌, inl, inr, ⊎_elim, ℕ, zero, suc, ◌<◌, ◌≤◌, List, [], ◌∷◌, length, Some, None, refl, ap, arith, subst, slice_get}
use Rattle.std.specs.Prelude.{Contains}
use Rattle.std.proofs.lemmas.Bool.{cases_eq, cases_lt}
use Rattle.std.proofs.lemmas.Option.{slice_get_within, get_or_from_slice_get, slice_get-get_or}
use Rattle.packet.specs.declared.kinds.Reply.{Reply}
use Rattle.trace_laws.specs.declared.event.Event.{Event}
use Rattle.trace_laws.specs.declared.event.Event.TheVariants.{Issue, Answer}
use Rattle.trace_laws.specs.Traces.{TraceAnswersAt, IsUnanswered}

-- an element at some place
abbrev pub IsIn : {A : Type 0} → List A → A → Type 0
IsIn xs x = (n : ℕ) × (slice_get xs n ≡ Some x)

pub in_contains : {A : Type 0} (xs : List A) (x : A) → IsIn xs x → Contains xs x
in_contains xs x h = (h.0, slice_get_within xs h.0 x h.1, get_or_from_slice_get xs h.0 x x h.1)

pub contains_in : {A : Type 0} (xs : List A) (x : A) → Contains xs x → IsIn xs x
contains_in {A} xs x h =
    (h.0, subst (λ (y : A). slice_get xs h.0 ≡ Some y) h.2 (slice_get-get_or xs h.0 x h.1))

-- a list without the element at a place
abbrev pub without : {A : Type 0} → List A → ℕ → List A
without [] n = []
without (x ∷ xs) zero = xs
without (x ∷ xs) (suc n) = x ∷ without xs n

pub length-without : {A : Type 0} (xs : List A) (n : ℕ) (x : A) → slice_get xs n ≡ Some x → suc (length (without xs n)) ≡ length xs
length-without [] n x h = absurd (let e : None ≡ Some x = h in cc)
length-without (y ∷ xs) zero x h = refl
length-without (y ∷ xs) (suc n) x h = ap suc (length-without xs n x h)

pub in_without : {A : Type 0} (xs : List A) (n : ℕ) (x y : A) → slice_get xs n ≡ Some x → (x ≡ y → ⊥) → IsIn xs y → IsIn (without xs n) y
in_without [] n x y h ne i = absurd (let e : None ≡ Some x = h in cc)
in_without (z ∷ xs) zero x y h ne (zero, e) = absurd (ne (cc))
in_without (z ∷ xs) zero x y h ne (suc m, e) = (m, e)
in_without (z ∷ xs) (suc n) x y h ne (zero, e) = (zero, e)
in_without (z ∷ xs) (suc n) x y h ne (suc m, e) = let r = in_without xs n x y h ne (m, e) in (suc r.0, r.1)

pub without_in : {A : Type 0} (xs : List A) (n : ℕ) (y : A) → IsIn (without xs n) y → IsIn xs y
without_in [] n y i = i
without_in (z ∷ xs) zero y i = (suc i.0, i.1)
without_in (z ∷ xs) (suc n) y (zero, e) = (zero, e)
without_in (z ∷ xs) (suc n) y (suc m, e) = let r = without_in xs n y (m, e) in (suc r.0, r.1)

-- an event answers an operation, or doesn't
answered_at : (trace : List Event) (k id : ℕ)
    → ((reply : Reply) × TraceAnswersAt trace k id reply) ⊎ ((reply : Reply) → TraceAnswersAt trace k id reply → ⊥)
answered_at [] k id = inr (λ r h. let e : None ≡ Some (Answer id r) = h in cc)
answered_at (Issue c ∷ trace) zero id = inr (λ r h. let e : Some (Issue c) ≡ Some (Answer id r) = h in cc)
answered_at (Answer n r ∷ trace) zero id = ⊎_elim
    (λ (e : n ≡ id). inl (r, ap (λ (m : ℕ). Some (Answer m r)) e))
    (λ (ne : n ≢ id). inr (λ s h. let e : Some (Answer n r) ≡ Some (Answer id s) = h in ne (cc)))
    (cases_eq n id)
answered_at (e ∷ trace) (suc k) id = answered_at trace k id

-- an operation is answered before event k, or not
pub answered_or_not : (trace : List Event) (k id : ℕ)
    → ((i : ℕ) × (reply : Reply) × (i < k) × TraceAnswersAt trace i id reply) ⊎ IsUnanswered trace k id
answered_or_not trace zero id = inr (λ i r h. omega arith)
answered_or_not trace (suc k) id = ⊎_elim
    (λ (a : (i : ℕ) × (reply : Reply) × (i < k) × TraceAnswersAt trace i id reply).
    let low = a.2 in inl (a.0, a.1, omega arith, a.3))
    (λ (u : IsUnanswered trace k id). ⊎_elim
    (λ (b : (reply : Reply) × TraceAnswersAt trace k id reply). inl (k, b.0, omega arith, b.1))
    (λ (none : (reply : Reply) → TraceAnswersAt trace k id reply → ⊥). inr (λ i r h.
    let far = u i r h in
    ⊎_elim
    (λ (l : k < i). omega arith)
    (λ (m : i ≤ k).
    let same : i ≡ k = omega arith in absurd (none r (subst (λ (j : ℕ). TraceAnswersAt trace j id r) same h)))
    (cases_lt k i)))
    (answered_at trace k id))
    (answered_or_not trace k id)
