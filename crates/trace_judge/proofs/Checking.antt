-- A trace, event by event.
use Rattle.std.proofs.Common.{◌≡◌, ◌≢◌, ◌⊎◌, ⊎_elim, ℕ, ◌+◌, ◌<◌, ◌≤◌, List, length, Option, Some, None, refl, sym, ◌∙◌, ap, subst, arith, slice_get}
use Rattle.std.proofs.lemmas.Bool.{cases_eq, cases_lt}
use Rattle.packet.specs.declared.kinds.Reply.{Reply}
use Rattle.trace_laws.specs.declared.event.Call.{Call}
use Rattle.trace_laws.specs.declared.event.Event.{Event}
use Rattle.trace_laws.specs.declared.event.Event.TheVariants.{Issue, Answer}
use Rattle.trace_laws.specs.Traces.{IsTrace, TraceIssuesAt, TraceAnswersAt, WasIssuedBefore}
use Rattle.trace_laws.proofs.Lists.{get_within}
use Rattle.trace_judge.specs.Opened.{WasLeftOpen}

-- no event from i up to k is of this number
pub record NoneSince (trace : List Event) (k id i : ℕ) : Type 0 where
  pub low : i ≤ k
  pub issues : (j : ℕ) (call : Call) → i ≤ j → j < k → TraceIssuesAt trace j call → call.id ≡ id → ⊥
  pub answers : (j : ℕ) (reply : Reply) → i ≤ j → j < k → TraceAnswersAt trace j id reply → ⊥

-- the last number that was issued before event k
abbrev pub IsLast : List Event → ℕ → Option ℕ → Type 0
IsLast trace k None = (i : ℕ) (call : Call) → i < k → TraceIssuesAt trace i call → ⊥
IsLast trace k (Some n) = ((i : ℕ) (call : Call) → i < k → TraceIssuesAt trace i call → call.id ≤ n)
    × ((i : ℕ) × (call : Call) × (i < k) × TraceIssuesAt trace i call × (call.id ≡ n))

-- the first k events are a trace
pub record IsChecked (words : ℕ) (trace : List Event) (k : ℕ) (last : Option ℕ) : Type 0 where
  pub rising : (i j : ℕ) (a b : Call) → i < j → j < k → TraceIssuesAt trace i a → TraceIssuesAt trace j b
      → a.id < b.id
  pub issued : (j id : ℕ) (reply : Reply) → j < k → TraceAnswersAt trace j id reply → WasIssuedBefore trace j id
  pub once : (i j id : ℕ) (r s : Reply) → i < j → j < k → TraceAnswersAt trace i id r → TraceAnswersAt trace j id s
      → ⊥
  pub inside : (i : ℕ) (call : Call) → i < k → TraceIssuesAt trace i call → call.operation.address < words
  pub greatest : IsLast trace k last

pub checked_none : (words : ℕ) (trace : List Event) → IsChecked words trace 0 None
checked_none words trace = record {
  rising = λ i j a b l m h k. absurd (omega arith);
  issued = λ j id reply l h. absurd (omega arith);
  once = λ i j id r s l m h k. omega arith;
  inside = λ i call l h. absurd (omega arith);
  greatest = λ i call l h. omega arith;
}

-- numbers that were issued are at most the last
below_last : (trace : List Event) (k : ℕ) (last : Option ℕ) (n : ℕ) → IsLast trace k last
    → ((m : ℕ) → last ≡ Some m → m < n) → (i : ℕ) (call : Call) → i < k → TraceIssuesAt trace i call → call.id < n
below_last trace k None n is less i call l h = absurd (is i call l h)
below_last trace k (Some m) n is less i call l h = let a = is.0 i call l h in let b = less m refl in omega arith

pub checked_issue : (words : ℕ) (trace : List Event) (k : ℕ) (last : Option ℕ) (call : Call)
    → TraceIssuesAt trace k call → call.operation.address < words
    → ((m : ℕ) → last ≡ Some m → m < call.id) → IsChecked words trace k last
    → IsChecked words trace (k + 1) (Some call.id)
checked_issue words trace k last call now inside above was =
    let here : (j : ℕ) → j ≡ k → (b : Call) → TraceIssuesAt trace j b → call ≡ b = λ j e b h.
    let at : slice_get trace k ≡ Some (Issue b) = ap (λ (n : ℕ). slice_get trace n) (sym e) ∙ h in cc in
    let never : (j : ℕ) → j ≡ k → (id : ℕ) (r : Reply) → TraceAnswersAt trace j id r → ⊥ = λ j e id r h.
    let at : slice_get trace k ≡ Some (Answer id r) = ap (λ (n : ℕ). slice_get trace n) (sym e) ∙ h in cc in
    record {
      rising = λ i j a b l m h g. ⊎_elim {C = a.id < b.id}
          (λ (e : j ≡ k).
          let less = below_last trace k last call.id was.greatest above i a (omega arith) h in
          let same = ap (λ (d : Call). d.id) (here j e b g) in
          omega arith)
          (λ (ne : j ≢ k). was.rising i j a b l (omega arith) h g)
          (cases_eq j k);
      issued = λ j id reply l h. was.issued j id reply (let ne : j ≢ k = λ e. never j e id reply h in omega arith) h;
      once = λ i j id r s l m h g. was.once i j id r s l (let ne : j ≢ k = λ e. never j e id s g in omega arith) h g;
      inside = λ i b l h. ⊎_elim {C = b.operation.address < words}
          (λ (e : i ≡ k). subst (λ (d : Call). d.operation.address < words) (here i e b h) inside)
          (λ (ne : i ≢ k). was.inside i b (omega arith) h)
          (cases_eq i k);
      greatest = (
        (λ i b l h. ⊎_elim {C = b.id ≤ call.id}
            (λ (e : i ≡ k). let same = ap (λ (d : Call). d.id) (here i e b h) in omega arith)
            (λ (ne : i ≢ k). let less = below_last trace k last call.id was.greatest above i b
            (omega arith) h in omega arith)
            (cases_eq i k)),
        (k, call, omega arith, now, refl),
      );
    }

last_later : (trace : List Event) (k : ℕ) (last : Option ℕ) → ((call : Call) → TraceIssuesAt trace k call → ⊥)
    → IsLast trace k last → IsLast trace (k + 1) last
last_later trace k None never is = λ i call l h. ⊎_elim {C = ⊥}
    (λ (e : i ≡ k). never call (ap (λ (n : ℕ). slice_get trace n) (sym e) ∙ h))
    (λ (ne : i ≢ k). is i call (omega arith) h)
    (cases_eq i k)
last_later trace k (Some n) never is = (
  (λ i call l h. ⊎_elim {C = call.id ≤ n}
      (λ (e : i ≡ k). absurd (never call (ap (λ (n : ℕ). slice_get trace n) (sym e) ∙ h)))
      (λ (ne : i ≢ k). is.0 i call (omega arith) h)
      (cases_eq i k)),
  (is.1.0, is.1.1, omega (arith, is.1.2), is.1.3, is.1.4),
)

pub checked_answer : (words : ℕ) (trace : List Event) (k : ℕ) (last : Option ℕ) (id : ℕ) (reply : Reply)
    → TraceAnswersAt trace k id reply → WasLeftOpen trace k id
    → IsChecked words trace k last → IsChecked words trace (k + 1) last
checked_answer words trace k last id reply now left was =
    let never : (j : ℕ) → j ≡ k → (call : Call) → TraceIssuesAt trace j call → ⊥ = λ j e call h.
    let at : slice_get trace k ≡ Some (Issue call) = ap (λ (n : ℕ). slice_get trace n) (sym e) ∙ h in cc in
    let here : (j : ℕ) → j ≡ k → (other : ℕ) (r : Reply) → TraceAnswersAt trace j other r
    → id ≡ other = λ j e other r h.
    let at : slice_get trace k ≡ Some (Answer other r) = ap (λ (n : ℕ). slice_get trace n) (sym e) ∙ h in cc in
    record {
      rising = λ i j a b l m h g. was.rising i j a b l (let ne : j ≢ k = λ e. never j e b g in omega arith) h g;
      issued = λ j other r l h. ⊎_elim {C = WasIssuedBefore trace j other}
          (λ (e : j ≡ k).
          let early = left.early in
          (left.at, left.call, omega arith, left.number ∙ here j e other r h, left.issue))
          (λ (ne : j ≢ k). was.issued j other r (omega arith) h)
          (cases_eq j k);
      once = λ i j other r s l m h g. ⊎_elim {C = ⊥}
          (λ (e : j ≡ k).
          let same = here j e other s g in
          let at : TraceAnswersAt trace i id r = subst (λ (n : ℕ). TraceAnswersAt trace i n r) (sym same) h in
          ⊎_elim {C = ⊥}
          (λ (late : left.at < i). left.unanswered i r late (omega arith) at)
          (λ (low : i ≤ left.at).
          let issue = was.issued i id r (omega arith) at in
          let before = issue.2 in
          let less = was.rising issue.0 left.at issue.1 left.call (omega arith) left.early issue.4 left.issue in
          let a = issue.3 in
          let b = left.number in
          omega arith)
          (cases_lt left.at i))
          (λ (ne : j ≢ k). was.once i j other r s l (omega arith) h g)
          (cases_eq j k);
      inside = λ i call l h. was.inside i call (let ne : i ≢ k = λ e. never i e call h in omega arith) h;
      greatest = last_later trace k last (λ call h. never k refl call h) was.greatest;
    }

pub checked_all : (words : ℕ) (trace : List Event) (k : ℕ) (last : Option ℕ) → length trace ≤ k
    → IsChecked words trace k last → IsTrace words trace
checked_all words trace k last all was = record {
  rising = λ i j a b l h g. was.rising i j a b l (let m = get_within trace j (Issue b) g in omega arith) h g;
  issued = λ j id reply h. was.issued j id reply (let m = get_within trace j (Answer id reply) h in omega arith) h;
  once = λ i j id r s h g. ⊎_elim {C = i ≡ j}
      (λ (l : i < j). absurd (was.once i j id r s l (let m = get_within trace j (Answer id s) g in omega arith) h g))
      (λ (m : j ≤ i). ⊎_elim {C = i ≡ j}
      (λ (l : j < i). absurd (was.once j i id s r l (let m = get_within trace i (Answer id r) h in omega arith) g h))
      (λ (n : i ≤ j). omega arith)
      (cases_lt j i))
      (cases_lt i j);
  inside = λ i call h. was.inside i call (let m = get_within trace i (Issue call) h in omega arith) h;
}

-- what breaks a rule
pub outside : (words : ℕ) (trace : List Event) (k : ℕ) (call : Call) → TraceIssuesAt trace k call
    → words ≤ call.operation.address → IsTrace words trace → ⊥
outside words trace k call now far t = let l = t.inside k call now in omega arith

pub not_rising : (words : ℕ) (trace : List Event) (k : ℕ) (last : Option ℕ) (n : ℕ) (call : Call)
    → last ≡ Some n → TraceIssuesAt trace k call → call.id ≤ n → IsChecked words trace k last → IsTrace words trace
    → ⊥
not_rising words trace k last n call e now low was t =
    let is : IsLast trace k (Some n) = subst (λ (l : Option ℕ). IsLast trace k l) e was.greatest in
    let r = is.1 in
    let less = t.rising r.0 k r.1 call r.2 r.3 now in
    let same = r.4 in
    omega arith

pub not_open : (words : ℕ) (trace : List Event) (k id : ℕ) (reply : Reply) → TraceAnswersAt trace k id reply
    → (WasIssuedBefore trace k id → ⊥) ⊎ ((j : ℕ) × (told : Reply) × (j < k) × TraceAnswersAt trace j id told)
    → IsTrace words trace → ⊥
not_open words trace k id reply now why t = ⊎_elim {C = ⊥}
    (λ none. none (t.issued k id reply now))
    (λ (r : (j : ℕ) × (told : Reply) × (j < k)
    × TraceAnswersAt trace j id told). let e = t.once r.0 k id r.1 reply r.3 now in let l = r.2 in omega arith)
    why
