-- Which event issues an operation, and what a longer order has on it.
use Rattle.std.proofs.Common.{◌≡◌, ◌≢◌, ⊎_elim, ℕ, ◌<◌, ◌≤◌, List, [], ◌∷◌, ◌++◌, Some, ◌∙◌, ap, arith, slice_get}
use Rattle.std.proofs.lemmas.Bool.{cases_lt}
use Rattle.packet.specs.declared.kinds.Reply.{Reply}
use Rattle.trace_laws.specs.declared.event.Call.{Call}
use Rattle.trace_laws.specs.declared.event.Event.{Event}
use Rattle.trace_laws.specs.declared.event.Event.TheVariants.{Issue, Answer}
use Rattle.trace_laws.specs.Traces.{IsTrace, TraceIssuesAt, TraceAnswersAt}
use Rattle.trace_laws.specs.Orders.{IsOn, IsOrder}
use Rattle.trace_laws.proofs.Lists.{get_append_left}

-- one number is issued once
pub one_issue : (words : ℕ) (trace : List Event) → IsTrace words trace → (i j : ℕ) (a b : Call)
    → TraceIssuesAt trace i a → TraceIssuesAt trace j b → a.id ≡ b.id → i ≡ j
one_issue words trace t i j a b h k e = ⊎_elim
    (λ (l : i < j). absurd (let less = t.rising i j a b l h k in omega arith))
    (λ (g : j ≤ i). ⊎_elim
    (λ (l : j < i). absurd (let less = t.rising j i b a l k h in omega arith))
    (λ (m : i ≤ j). omega arith)
    (cases_lt j i))
    (cases_lt i j)

-- of one operation
pub one_call : (words : ℕ) (trace : List Event) → IsTrace words trace → (i j : ℕ) (a b : Call)
    → TraceIssuesAt trace i a → TraceIssuesAt trace j b → a.id ≡ b.id → a ≡ b
one_call words trace t i j a b h k e =
    let same = one_issue words trace t i j a b h k e in
    let there : slice_get trace i ≡ Some (Issue b) = ap (λ (n : ℕ). slice_get trace n) same ∙ k in
    cc

-- what is in an order is in it with one operation more
pub on_push : (order : List Call) (c : Call) (id : ℕ) → IsOn order id → IsOn (order ++ c ∷ []) id
on_push order c id on = (on.0, on.1, get_append_left order (c ∷ []) on.0 on.1 on.2, on.3)

-- what stands in the order up to what is answered at event k was issued before
pub issued_early : (opening : List ℕ) (trace : List Event) (k : ℕ) (order : List Call)
    → IsOrder opening trace order → (a : Call) (reply : Reply) → TraceAnswersAt trace k a.id reply
    → (x : ℕ) → slice_get order x ≡ Some a → (n : ℕ) (d : Call) → n ≤ x → slice_get order n ≡ Some d
    → (i : ℕ) × (i < k) × TraceIssuesAt trace i d
issued_early opening trace k order o a reply now x at n d l h =
    let issue = o.issued n d h in
    let i = issue.0 in
    let ne : i ≢ k = λ e.
    let there : slice_get trace i ≡ Some (Answer a.id reply) = ap (λ (j : ℕ). slice_get trace j) e ∙ now in
    let also : slice_get trace i ≡ Some (Issue d) = issue.1 in
    cc in
    ⊎_elim
    (λ (early : i < k). (i, early, issue.1))
    (λ (late : k ≤ i). absurd
    (let wrong = o.real_time k i x n a d reply (omega arith) now issue.1 at h in omega arith))
    (cases_lt i k)
