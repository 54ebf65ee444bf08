-- The first item of a list that passes a test.
use Rattle.std.proofs.Common.{◌≡◌, ℕ, zero, suc, ◌<◌, Bool, true, false, cond, List, [], ◌∷◌, Some, refl, sym, ◌∙◌}
use Rattle.std.proofs.Common.{ap, arith, slice_get, eq-eqb}
use Rattle.std.specs.Prelude.{remove, filter}
use Rattle.std.proofs.lemmas.Option.{same_Some}
use Rattle.packet.specs.declared.kinds.Request.{Request}
use Rattle.packet.specs.declared.kinds.Response.{Response}
use Rattle.one_order.specs.Flight.{is_asked_alike, is_told_alike, first_place}

-- before the place of the first that passes there is none that passes
pub none_before : {A : Type 0} (test : A → Bool) (xs : List A) (k : ℕ) (q : A) → k < first_place test xs → slice_get xs k ≡ Some q
    → test q ≡ true → ⊥
none_before test [] k q below at passes = omega arith
none_before {A} test (x ∷ xs) k q below at passes =
    by_first (test x) refl k below at (λ j low there. none_before test xs j q low there passes)
  where
    by_first : (b : Bool) → test x ≡ b → (k : ℕ) → k < cond b 0 (suc (first_place test xs)) → slice_get (x ∷ xs) k ≡ Some q
        → ((j : ℕ) → j < first_place test xs → slice_get xs j ≡ Some q → ⊥) → ⊥
    by_first true is k below at later = omega arith
    by_first false is zero below at later =
        let same : test x ≡ test q = ap test (same_Some x q at) in
        let bad : ◌≡◌ {A = Bool} true false = sym passes ∙ (sym same ∙ is) in cc
    by_first false is (suc k) below at later = later k (omega arith) at

-- the first that passes stands at that place
pub first_there : {A : Type 0} (test : A → Bool) (xs : List A) (r : A) (more : List A) → filter test xs ≡ r ∷ more
    → slice_get xs (first_place test xs) ≡ Some r
first_there test [] r more h = cc
first_there {A} test (x ∷ xs) r more h = by_first (test x) h (λ e. first_there test xs r more e)
  where
    by_first : (b : Bool) → cond b (x ∷ filter test xs) (filter test xs) ≡ r ∷ more
        → (filter test xs ≡ r ∷ more → slice_get xs (first_place test xs) ≡ Some r)
        → slice_get (x ∷ xs) (cond b 0 (suc (first_place test xs))) ≡ Some r
    by_first true e later = cc
    by_first false e later = later e

-- what is left of those that pass once the first is removed
pub first_removed : {A : Type 0} (test : A → Bool) (xs : List A) (r : A) (more : List A) → filter test xs ≡ r ∷ more
    → filter test (remove xs (first_place test xs)) ≡ more
first_removed test [] r more h = cc
first_removed {A} test (x ∷ xs) r more h = by_first (test x) refl h (λ e. first_removed test xs r more e)
  where
    by_first : (b : Bool) → test x ≡ b → cond b (x ∷ filter test xs) (filter test xs) ≡ r ∷ more
        → (filter test xs ≡ r ∷ more → filter test (remove xs (first_place test xs)) ≡ more)
        → filter test (remove (x ∷ xs) (cond b 0 (suc (first_place test xs)))) ≡ more
    by_first true is e later = cc
    by_first false is e later =
        let left = filter test (remove xs (first_place test xs)) in
        ap (λ (b : Bool). cond b (x ∷ left) left) is ∙ later e

pub alike_true : (r q : Request) → q.source ≡ r.source → q.destination ≡ r.destination → is_asked_alike r q ≡ true
alike_true r q s d = rw (eq-eqb q.source r.source s, eq-eqb q.destination r.destination d) refl

pub told_alike_true : (r q : Response) → q.source ≡ r.source → q.destination ≡ r.destination → is_told_alike r q ≡ true
told_alike_true r q s d = rw (eq-eqb q.source r.source s, eq-eqb q.destination r.destination d) refl

-- the first that passes, and those that pass of what is left once it is removed
pub first_out : {A : Type 0} (test : A → Bool) (xs : List A) (r : A) → slice_get xs (first_place test xs) ≡ Some r
    → filter test xs ≡ r ∷ filter test (remove xs (first_place test xs))
first_out test [] r h = cc
first_out {A} test (x ∷ xs) r h = by_first (test x) refl h (λ e. first_out test xs r e)
  where
    by_first : (b : Bool) → test x ≡ b → slice_get (x ∷ xs) (cond b 0 (suc (first_place test xs))) ≡ Some r
        → (slice_get xs (first_place test xs) ≡ Some r → filter test xs ≡ r ∷ filter test (remove xs (first_place test xs)))
        → cond b (x ∷ filter test xs) (filter test xs) ≡ r ∷ filter test (remove (x ∷ xs) (cond b 0 (suc (first_place test xs))))
    by_first true is e later = ap (λ y. y ∷ filter test xs) (same_Some x r e)
    by_first false is e later =
        later e
        ∙ ap (λ (b : Bool). r ∷ cond b (x ∷ filter test (remove xs (first_place test xs))) (filter test (remove xs (first_place test xs)))) (sym is)

-- those that pass stay where one that doesn't is removed
pub other_stays : {A : Type 0} (test : A → Bool) (xs : List A) (k : ℕ) (r : A) → slice_get xs k ≡ Some r → test r ≡ false
    → filter test (remove xs k) ≡ filter test xs
other_stays test [] k r h fails = cc
other_stays {A} test (x ∷ xs) zero r h fails =
    let same : x ≡ r = same_Some x r h in
    sym (ap (λ (b : Bool). cond b (x ∷ filter test xs) (filter test xs)) (ap test same ∙ fails))
other_stays {A} test (x ∷ xs) (suc k) r h fails =
    ap (λ ys. cond (test x) (x ∷ ys) ys) (other_stays test xs k r h fails)
