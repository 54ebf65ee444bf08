-- The events of some operations of a trace are a trace.
use Rattle.std.proofs.Common.{◌≡◌, ⊎_elim, inl, inr, ℕ, zero, suc, ◌<◌, Bool, true, false, List, [], ◌∷◌, Some, None, refl, sym, ◌∙◌, ap, subst, arith, slice_get, filter, map}
use Rattle.std.specs.Prelude.{replicate, unwrap_or}
use Rattle.std.proofs.lemmas.Bool.{cases_lt}
use Rattle.packet.specs.declared.kinds.Reply.{Reply}
use Rattle.trace_laws.specs.declared.event.Call.{Call}
use Rattle.trace_laws.specs.declared.event.Event.{Event}
use Rattle.trace_laws.specs.declared.event.Event.TheVariants.{Issue, Answer}
use Rattle.trace_laws.specs.Traces.{IsTrace}
use Rattle.trace_laws.specs.Unanswered.{IsWithout}
use Rattle.trace_laws.proofs.Without.{forth, forth_both}
use Rattle.trace_answer.specs.Kept.{is_of_kept, kept_events}

-- where an element that passes stands in the whole list, and that what passes before it stands before it
abbrev pub PassesAt : {A : Type 0} → (A → Bool) → List A → List A → ℕ → A → Type 0
PassesAt {A} p long short i x = (k : ℕ) × (slice_get long k ≡ Some x) × (p x ≡ true)
    × ((j : ℕ) (y : A) → j < k → slice_get long j ≡ Some y → p y ≡ true → (m : ℕ) × (m < i) × (slice_get short m ≡ Some y))

below_first : {A : Type 0} (p : A → Bool) (z : A) (long short : List A) (i k : ℕ)
    → ((j : ℕ) (y : A) → j < k → slice_get long j ≡ Some y → p y ≡ true → (m : ℕ) × (m < i) × (slice_get short m ≡ Some y))
    → (j : ℕ) (y : A) → j < suc k → slice_get (z ∷ long) j ≡ Some y → p y ≡ true → (m : ℕ) × (m < suc i) × (slice_get (z ∷ short) m ≡ Some y)
below_first p z long short i k below zero y l g t = (0, omega arith, g)
below_first p z long short i k below (suc j) y l g t =
    let q = below j y (omega arith) g t in
    let low : q.0 < i = q.1 in
    (suc q.0, omega arith, q.2)

first_passes : {A : Type 0} (p : A → Bool) (z : A) (long short : List A) → p z ≡ true
    → ((i : ℕ) (x : A) → slice_get short i ≡ Some x → PassesAt p long short i x)
    → (i : ℕ) (x : A) → slice_get (z ∷ short) i ≡ Some x → PassesAt p (z ∷ long) (z ∷ short) i x
first_passes p z long short e ih zero x h =
    let same : z ≡ x = cc in
    (0, h, subst (λ w. p w ≡ true) same e, λ j y l. absurd (omega arith))
first_passes p z long short e ih (suc i) x h =
    let r = ih i x h in
    (suc r.0, r.1, r.2, below_first p z long short i r.0 r.3)

below_skipped : {A : Type 0} (p : A → Bool) (z : A) (long short : List A) (i k : ℕ) → p z ≡ false
    → ((j : ℕ) (y : A) → j < k → slice_get long j ≡ Some y → p y ≡ true → (m : ℕ) × (m < i) × (slice_get short m ≡ Some y))
    → (j : ℕ) (y : A) → j < suc k → slice_get (z ∷ long) j ≡ Some y → p y ≡ true → (m : ℕ) × (m < i) × (slice_get short m ≡ Some y)
below_skipped p z long short i k e below zero y l g t =
    let same : z ≡ y = cc in
    let is : p z ≡ true = subst (λ w. p w ≡ true) (sym same) t in
    absurd (let n : true ≡ false = sym is ∙ e in cc)
below_skipped p z long short i k e below (suc j) y l g t = below j y (omega arith) g t

first_is_skipped : {A : Type 0} (p : A → Bool) (z : A) (long short : List A) → p z ≡ false
    → (i : ℕ) (x : A) → PassesAt p long short i x → PassesAt p (z ∷ long) short i x
first_is_skipped p z long short e i x r = (suc r.0, r.1, r.2, below_skipped p z long short i r.0 e r.3)

filter_takes : {A : Type 0} (p : A → Bool) (z : A) (xs : List A) → p z ≡ true → filter p (z ∷ xs) ≡ z ∷ filter p xs
filter_takes p z xs e = rw e refl

filter_leaves : {A : Type 0} (p : A → Bool) (z : A) (xs : List A) → p z ≡ false → filter p (z ∷ xs) ≡ filter p xs
filter_leaves p z xs e = rw e refl

by_first : {A : Type 0} (p : A → Bool) (z : A) (xs : List A) (b : Bool) → p z ≡ b
    → ((i : ℕ) (x : A) → slice_get (filter p xs) i ≡ Some x → PassesAt p xs (filter p xs) i x)
    → (i : ℕ) (x : A) → slice_get (filter p (z ∷ xs)) i ≡ Some x → PassesAt p (z ∷ xs) (filter p (z ∷ xs)) i x
by_first p z xs true e ih i x h =
    subst (λ s. PassesAt p (z ∷ xs) s i x) (sym (filter_takes p z xs e))
    (first_passes p z xs (filter p xs) e ih i x (subst (λ s. slice_get s i ≡ Some x) (filter_takes p z xs e) h))
by_first p z xs false e ih i x h =
    subst (λ s. PassesAt p (z ∷ xs) s i x) (sym (filter_leaves p z xs e))
    (first_is_skipped p z xs (filter p xs) e i x (ih i x (subst (λ s. slice_get s i ≡ Some x) (filter_leaves p z xs e) h)))

pub passes_at : {A : Type 0} (p : A → Bool) (xs : List A) (i : ℕ) (x : A) → slice_get (filter p xs) i ≡ Some x → PassesAt p xs (filter p xs) i x
passes_at p [] i x h = absurd (let n : None ≡ Some x = h in cc)
passes_at p (z ∷ xs) i x h = by_first p z xs (p z) refl (λ j y g. passes_at p xs j y g) i x h

without_first : {A : Type 0} (p : A → Bool) (z : A) (xs : List A) (b : Bool) → p z ≡ b → IsWithout (λ x. p x ≡ false) xs (filter p xs)
    → IsWithout (λ x. p x ≡ false) (z ∷ xs) (filter p (z ∷ xs))
without_first p z xs true e ih = inl (filter p xs, filter_takes p z xs e, ih)
without_first p z xs false e ih = inr (e, subst (λ s. IsWithout (λ x. p x ≡ false) xs s) (sym (filter_leaves p z xs e)) ih)

-- what passes, without what doesn't
pub filter_is_without : {A : Type 0} (p : A → Bool) (xs : List A) → IsWithout (λ x. p x ≡ false) xs (filter p xs)
filter_is_without p [] = refl
filter_is_without p (z ∷ xs) = without_first p z xs (p z) refl (filter_is_without p xs)

-- an issue is kept with its answer
issue_is_kept : (kept : List Bool) (call : Call) (id : ℕ) (reply : Reply) → call.id ≡ id → is_of_kept kept (Answer id reply) ≡ true
    → is_of_kept kept (Issue call) ≡ true
issue_is_kept kept call id reply same h = subst (λ n. unwrap_or (slice_get kept n) false ≡ true) (sym same) h

-- the events of some operations are a trace
pub kept_trace : (words : ℕ) (kept : List Bool) (trace : List Event) → IsTrace words trace → IsTrace words (kept_events kept trace)
kept_trace words kept trace t = record {
  rising = λ i j a b l h g. let f = forth_both (λ e. is_of_kept kept e ≡ false) trace (kept_events kept trace) without i j (Issue a) (Issue b) l h g in t.rising f.0 f.1 a b f.2 f.3 f.4;
  issued = λ j id reply h.
      let at = passes_at (is_of_kept kept) trace j (Answer id reply) h in
      let was = t.issued at.0 id reply at.1 in
      let m = at.3 was.0 (Issue was.1) was.2 was.4 (issue_is_kept kept was.1 id reply was.3 at.2) in
      (m.0, was.1, m.1, was.3, m.2);
  once = λ i j id r s h g. ⊎_elim {C = i ≡ j}
      (λ (l : i < j). let f = forth_both (λ e. is_of_kept kept e ≡ false) trace (kept_events kept trace) without i j (Answer id r) (Answer id s) l h g in
      let low : f.0 < f.1 = f.2 in
      let e = t.once f.0 f.1 id r s f.3 f.4 in absurd (omega arith))
      (λ n. ⊎_elim {C = i ≡ j}
      (λ (l : j < i). let f = forth_both (λ e. is_of_kept kept e ≡ false) trace (kept_events kept trace) without j i (Answer id s) (Answer id r) l g h in
      let low : f.0 < f.1 = f.2 in
      let e = t.once f.0 f.1 id s r f.3 f.4 in absurd (omega arith))
      (λ m. omega arith)
      (cases_lt j i))
      (cases_lt i j);
  inside = λ i call h. let f = forth (λ e. is_of_kept kept e ≡ false) trace (kept_events kept trace) without i (Issue call) h in t.inside f.0 call f.1;
}
  where
    without : IsWithout (λ e. is_of_kept kept e ≡ false) trace (kept_events kept trace)
    without = filter_is_without (is_of_kept kept) trace

-- what passes of images are the images of what passes
images_first : {A : Type 0} (p : A → Bool) (f : A → A) (z : A) (xs : List A) (b : Bool) → p z ≡ b → p (f z) ≡ b
    → filter p (map f xs) ≡ map f (filter p xs) → filter p (map f (z ∷ xs)) ≡ map f (filter p (z ∷ xs))
images_first p f z xs true e g ih =
    filter_takes p (f z) (map f xs) g ∙ ap (λ s. f z ∷ s) ih ∙ ap (map f) (sym (filter_takes p z xs e))
images_first p f z xs false e g ih =
    filter_leaves p (f z) (map f xs) g ∙ ih ∙ ap (map f) (sym (filter_leaves p z xs e))

pub filter_of_images : {A : Type 0} (p : A → Bool) (f : A → A) (xs : List A) → ((x : A) → p (f x) ≡ p x)
    → filter p (map f xs) ≡ map f (filter p xs)
filter_of_images p f [] same = refl
filter_of_images p f (z ∷ xs) same = images_first p f z xs (p z) refl (same z) (filter_of_images p f xs same)

all_first : {A : Type 0} (p : A → Bool) (z : A) (xs : List A) → p z ≡ true → filter p xs ≡ xs → filter p (z ∷ xs) ≡ z ∷ xs
all_first p z xs e ih = filter_takes p z xs e ∙ ap (λ s. z ∷ s) ih

-- where all pass
pub filter_of_all : {A : Type 0} (p : A → Bool) (xs : List A) → ((i : ℕ) (x : A) → slice_get xs i ≡ Some x → p x ≡ true) → filter p xs ≡ xs
filter_of_all p [] all = refl
filter_of_all p (z ∷ xs) all = all_first p z xs (all 0 z refl) (filter_of_all p xs (λ i x h. all (suc i) x h))

pub get_replicate : {A : Type 0} (n : ℕ) (x : A) (k : ℕ) → k < n → slice_get (replicate n x) k ≡ Some x
get_replicate zero x k l = absurd (omega arith)
get_replicate (suc n) x zero l = refl
get_replicate (suc n) x (suc k) l = get_replicate n x k (omega arith)
