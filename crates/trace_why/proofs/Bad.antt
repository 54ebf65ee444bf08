-- The first event that no order explains.
use Rattle.std.proofs.Common.{◌≡◌, ⊎_elim, ℕ, suc, ◌+◌, ◌<◌, List, [], ◌∷◌, ◌++◌, length, Some, sym, ◌∙◌, ap, subst, arith, slice_get, take}
use Rattle.packet.specs.declared.kinds.Reply.{Reply}
use Rattle.trace_laws.specs.declared.event.Call.{Call}
use Rattle.trace_laws.specs.declared.event.Event.{Event}
use Rattle.trace_laws.specs.declared.event.Event.TheVariants.{Issue, Answer}
use Rattle.trace_laws.specs.Traces.{IsTrace, TraceIssuesAt, TraceAnswersAt}
use Rattle.trace_laws.specs.Orders.{IsOrder, IsLinearizable}
use Rattle.trace_laws.proofs.Lists.{get_push_cases, get_append_left, within_length, take_get, take_push}
use Rattle.trace_laws.proofs.Issues.{one_issue}
use Rattle.trace_text.specs.Allowed.{IsAllowed}

-- an answer in a beginning with an issue behind it
answer_in : (trace : List Event) (k : ℕ) (c : Call) (i id : ℕ) (reply : Reply) → TraceAnswersAt (take k trace ++ Issue c ∷ []) i id reply
    → TraceAnswersAt (take k trace) i id reply
answer_in trace k c i id reply h = ⊎_elim {C = TraceAnswersAt (take k trace) i id reply}
    (λ l. l)
    (λ (r : (i ≡ length (take k trace)) × (Issue c ≡ Answer id reply)). absurd (let e = r.1 in cc))
    (get_push_cases (take k trace) (Issue c) i (Answer id reply) h)

-- an order explains an issue more
issue_more : (words : ℕ) (opening : List ℕ) (trace : List Event) (k : ℕ) (c : Call) → IsTrace words trace → TraceIssuesAt trace k c
    → (order : List Call) → IsOrder opening (take k trace) order → IsOrder opening (take k trace ++ Issue c ∷ []) order
issue_more words opening trace k c t at order o = record {
  once = o.once;
  issued = λ x d h. let i = o.issued x d h in (i.0, get_append_left (take k trace) (Issue c ∷ []) i.0 (Issue d) i.1);
  answered = λ i id reply h. o.answered i id reply (answer_in trace k c i id reply h);
  real_time = λ i j x y d e reply l a b g m.
      let before = answer_in trace k c i d.id reply a in
      ⊎_elim {C = x < y}
      (λ (old : TraceIssuesAt (take k trace) j e). o.real_time i j x y d e reply l before old g m)
      (λ (last : (j ≡ length (take k trace)) × (Issue c ≡ Issue e)).
      let same : c ≡ e = let f = last.1 in cc in
      let was = o.issued y e m in
      let there = take_get k trace was.0 (Issue e) was.1 in
      let one = one_issue words trace t was.0 k e c there.1 at (ap (λ (z : Call). z.id) (sym same)) in
      let low = there.0 in absurd (omega arith))
      (get_push_cases (take k trace) (Issue c) j (Issue e) b);
  replies = λ i x d reply h a. o.replies i x d reply h (answer_in trace k c i d.id reply a);
}

longer : (trace : List Event) (k : ℕ) (e : Event) → slice_get trace k ≡ Some e → take (k + 1) trace ≡ take k trace ++ e ∷ []
longer trace k e h =
    let one : k + 1 ≡ suc k = omega arith in
    ap (λ (n : ℕ). take n trace) one ∙ take_push trace k e h

bad_at : (opening : List ℕ) (trace : List Event) (k : ℕ) → IsTrace (length opening) trace → IsLinearizable opening (take k trace)
    → (IsLinearizable opening (take (k + 1) trace) → ⊥) → (e : Event) → slice_get trace k ≡ Some e
    → (id : ℕ) × (reply : Reply) × TraceAnswersAt trace k id reply × (IsAllowed opening trace k id reply → ⊥)
bad_at opening trace k t good bad (Issue c) h =
    absurd (bad (subst (λ (es : List Event). IsLinearizable opening es) (sym (longer trace k (Issue c) h))
    (good.0, issue_more (length opening) opening trace k c t h good.0 good.1)))
bad_at opening trace k t good bad (Answer id reply) h =
    (id, reply, h, λ is. bad (subst (λ (es : List Event). IsLinearizable opening es) (sym (longer trace k (Answer id reply) h)) is))

pub bad_event : (opening : List ℕ) (trace : List Event) (k : ℕ) → IsTrace (length opening) trace → k < length trace
    → IsLinearizable opening (take k trace) → (IsLinearizable opening (take (k + 1) trace) → ⊥)
    → (id : ℕ) × (reply : Reply) × TraceAnswersAt trace k id reply × (IsAllowed opening trace k id reply → ⊥)
bad_event opening trace k t l good bad =
    let e = within_length trace k l in
    bad_at opening trace k t good bad e.0 e.1
