-- Orders of the operations that were issued before an event.
use Rattle.std.proofs.Common.{◌≡◌, ◌≢◌, ⊎_elim, ℕ, suc, ◌<◌, ◌≤◌, List, [], ◌∷◌, ◌++◌, length, Some, None, refl, sym, ◌∙◌, ap, subst, arith, slice_get, take}
use Rattle.std.proofs.lemmas.Bool.{cases_eq}
use Rattle.std.proofs.lemmas.List.{take_at, take-append-le}
use Rattle.packet.specs.declared.kinds.Reply.{Reply}
use Rattle.packet.specs.Memory.{reply_of_one}
use Rattle.trace_laws.specs.declared.event.Call.{Call}
use Rattle.trace_laws.specs.declared.event.Event.{Event}
use Rattle.trace_laws.specs.declared.event.Event.TheVariants.{Issue, Answer}
use Rattle.trace_laws.specs.Traces.{IsTrace, TraceIssuesAt, TraceAnswersAt, IsUnanswered}
use Rattle.trace_laws.specs.Orders.{IsOn, IsOrder, memory_of}
use Rattle.trace_laws.specs.Legal.{Legal}
use Rattle.trace_laws.proofs.Lists.{get_push_cases, get_within}
use Rattle.trace_laws.proofs.Issues.{one_issue, on_push}

pub legal_none : (opening : List ℕ) (trace : List Event) → Legal opening trace 0 []
legal_none opening trace = record {
  once = λ x y c d h k e. cc;
  issued = λ x c h. absurd (let n : None ≡ Some c = h in cc);
  answered = λ i id reply l h. absurd (omega arith);
  real_time = λ i j x y c d reply l h k m n. absurd (let e : None ≡ Some c = m in cc);
  replies = λ i x c reply h k. absurd (let e : None ≡ Some c = h in cc);
}

-- at the end of the trace it is an order that explains it
pub legal_all : (opening : List ℕ) (trace : List Event) (k : ℕ) (order : List Call) → length trace ≤ k
    → Legal opening trace k order → IsOrder opening trace order
legal_all opening trace k order all l = record {
  once = l.once;
  issued = λ x c h. let r = l.issued x c h in (r.0, r.2);
  answered = λ i id reply h. l.answered i id reply (let w = get_within trace i (Answer id reply) h in omega arith) h;
  real_time = l.real_time;
  replies = l.replies;
}

-- the next event issues an operation
pub legal_issue : (opening : List ℕ) (trace : List Event) (k : ℕ) (order : List Call) (b : Call)
    → TraceIssuesAt trace k b → Legal opening trace k order → Legal opening trace (suc k) order
legal_issue opening trace k order b now l = record {
  once = l.once;
  issued = λ x c h. let r = l.issued x c h in (r.0, omega arith, r.2);
  answered = λ i id reply less h. ⊎_elim
      (λ (e : i ≡ k). absurd
      (let there : slice_get trace i ≡ Some (Issue b) = ap (λ (n : ℕ). slice_get trace n) e ∙ now in cc))
      (λ (ne : i ≢ k). l.answered i id reply (omega arith) h)
      (cases_eq i k);
  real_time = l.real_time;
  replies = l.replies;
}

-- the next event answers an operation of the order
pub legal_answer : (opening : List ℕ) (trace : List Event) (k : ℕ) (order : List Call) (id : ℕ) (reply : Reply)
    → TraceAnswersAt trace k id reply → IsOn order id
    → Legal opening trace k order → Legal opening trace (suc k) order
legal_answer opening trace k order id reply now on l = record {
  once = l.once;
  issued = λ x c h. let r = l.issued x c h in (r.0, omega arith, r.2);
  answered = λ i other told less h. ⊎_elim
      (λ (e : i ≡ k).
      let there : slice_get trace i ≡ Some (Answer id reply) = ap (λ (n : ℕ). slice_get trace n) e ∙ now in
      let same : id ≡ other = cc in
      (on.0, on.1, on.2, on.3 ∙ same))
      (λ (ne : i ≢ k). l.answered i other told (omega arith) h)
      (cases_eq i k);
  real_time = l.real_time;
  replies = l.replies;
}

-- and what is in the longer order is in the shorter one, or is that operation
pub push_on : (order : List Call) (c : Call) (id : ℕ) → IsOn (order ++ c ∷ []) id → c.id ≢ id → IsOn order id
push_on order c id on other = ⊎_elim
    (λ l. (on.0, on.1, l, on.3))
    (λ (r : (on.0 ≡ length order) × (c ≡ on.1)). absurd (other (ap (λ (d : Call). d.id) r.1 ∙ on.3)))
    (get_push_cases order c on.0 on.1 on.2)

-- an open operation takes effect behind the others
pub legal_effect : (words : ℕ) (opening : List ℕ) (trace : List Event) → IsTrace words trace
    → (k : ℕ) (order : List Call) (c : Call) (i : ℕ) → i < k → TraceIssuesAt trace i c
    → IsUnanswered trace k c.id → (IsOn order c.id → ⊥)
    → ((j : ℕ) (reply : Reply) → TraceAnswersAt trace j c.id reply → reply ≡ reply_of_one c.operation
    (memory_of opening order))
    → Legal opening trace k order → Legal opening trace k (order ++ c ∷ [])
legal_effect words opening trace t k order c i less issue pending new told l = record {
  once = λ x y d e h m same. ⊎_elim
      (λ (hx : slice_get order x ≡ Some d). ⊎_elim
      (λ (hy : slice_get order y ≡ Some e). l.once x y d e hx hy same)
      (λ (ny : (y ≡ length order) × (c ≡ e)). absurd (new (x, d, hx, same ∙ sym (ap (λ (f : Call). f.id) ny.1))))
      (get_push_cases order c y e m))
      (λ (nx : (x ≡ length order) × (c ≡ d)). ⊎_elim
      (λ (hy : slice_get order y ≡ Some e). absurd (new (y, e, hy, sym same ∙ sym (ap (λ (f : Call). f.id) nx.1))))
      (λ (ny : (y ≡ length order) × (c ≡ e)). nx.0 ∙ sym ny.0)
      (get_push_cases order c y e m))
      (get_push_cases order c x d h);
  issued = λ x d h. ⊎_elim
      (λ (hx : slice_get order x ≡ Some d). l.issued x d hx)
      (λ (nx : (x ≡ length order) × (c ≡ d)). (i, less, subst (λ (f : Call). TraceIssuesAt trace i f) nx.1 issue))
      (get_push_cases order c x d h);
  answered = λ j id reply before h. on_push order c id (l.answered j id reply before h);
  real_time = λ a j x y d e reply before h m hx hy. ⊎_elim
      (λ (ox : slice_get order x ≡ Some d). ⊎_elim
      (λ (oy : slice_get order y ≡ Some e). l.real_time a j x y d e reply before h m ox oy)
      (λ (ny : (y ≡ length order) × (c ≡ e)). let w = get_within order x d ox in omega arith)
      (get_push_cases order c y e hy))
      (λ (nx : (x ≡ length order) × (c ≡ d)).
      let late : k ≤ a = pending a reply (subst (λ (f : Call). TraceAnswersAt trace a f.id reply) (sym nx.1) h) in
      ⊎_elim
      (λ (oy : slice_get order y ≡ Some e).
      let r = l.issued y e oy in
      let same = one_issue words trace t r.0 j e e r.2 m refl in
      absurd (omega arith))
      (λ (ny : (y ≡ length order) × (c ≡ e)).
      let same = one_issue words trace t i j c e issue m (ap (λ (f : Call). f.id) ny.1) in
      absurd (omega arith))
      (get_push_cases order c y e hy))
      (get_push_cases order c x d hx);
  replies = λ j x d reply h m. ⊎_elim
      (λ (ox : slice_get order x ≡ Some d).
      let w = get_within order x d ox in
      let e : take x (order ++ c ∷ []) ≡ take x order = take-append-le x order (c ∷ []) (omega arith) in
      l.replies j x d reply ox m ∙ ap (λ (o : List Call). reply_of_one d.operation (memory_of opening o)) (sym e))
      (λ (nx : (x ≡ length order) × (c ≡ d)).
      let e : take x (order ++ c ∷ []) ≡ order = take_at order (c ∷ []) x (sym nx.0) in
      told' d nx.1 j reply m ∙ ap (λ (o : List Call). reply_of_one d.operation (memory_of opening o)) (sym e))
      (get_push_cases order c x d h);
}
  where
    told' : (d : Call) → c ≡ d → (j : ℕ) (reply : Reply) → TraceAnswersAt trace j d.id reply
        → reply ≡ reply_of_one d.operation (memory_of opening order)
    told' d same = subst (λ (f : Call). (j : ℕ) (reply : Reply) → TraceAnswersAt trace j f.id reply
        → reply ≡ reply_of_one f.operation (memory_of opening order)) same told
