-- What a trace tells of a history is kept where an operation is issued.
use Rattle.std.proofs.Common.{◌≡◌, ◌==◌, cond, ⊎_elim, ℕ, suc, ◌+◌, ◌<◌, List, [], ◌∷◌, ◌++◌, length, Some, sym, ◌∙◌, ap, subst}
use Rattle.std.proofs.Common.{arith, slice_get}
use Rattle.packet.specs.declared.kinds.Operation.{Operation}
use Rattle.packet.specs.declared.kinds.Reply.{Reply}
use Rattle.packet.specs.Memory.{replies}
use Rattle.one_order.specs.Observed.{Observed, list_at, HasAnswered}
use Rattle.one_order.specs.Order.{LinearizationPoint}
use Rattle.one_order.specs.Events.{Issued, push_at, happens, MayIssue}
use Rattle.one_order.proofs.Lists.{push_at_cases, push_at_keeps, push_at_new, length-push_at, length_list_at_push}
use Rattle.trace_laws.specs.declared.event.Call.{Call}
use Rattle.trace_laws.specs.declared.event.Event.{Event}
use Rattle.trace_laws.specs.declared.event.Event.TheVariants.{Issue, Answer}
use Rattle.trace_laws.specs.Traces.{TraceIssuesAt, TraceAnswersAt}
use Rattle.trace_laws.proofs.Lists.{get_push_cases, get_append_left, get_push, get_within}
use Rattle.core_laws.proofs.MachineTold.{IsNumber, Asks, IsCallOf, IsTold}

-- an operation is issued
pub told_issue : (tiles : ℕ) (opening : List ℕ) (n : ℕ) (s : Observed) (order : List LinearizationPoint)
    (numbers : List (List ℕ)) (trace : List Event) (calls : List Call)
    → (p : ℕ) (o : Operation) → MayIssue tiles (length opening) p o
    → IsTold tiles opening n s order numbers trace calls
    → IsTold tiles opening (suc n) (happens tiles s (Issued p o)) order (push_at numbers p n)
    (trace ++ Issue (record { id = n; operation = o }) ∷ []) calls
told_issue tiles opening n s order numbers trace calls p o may w = record {
  processors = length-push_at s.issued p o ∙ w.processors;
  answerers = w.answerers;
  sized = length-push_at numbers p n ∙ w.sized;
  counts = λ q. length_list_at_push numbers p n q inside
      ∙ (ap (λ (m : ℕ). m + cond (p == q) 1 0) (w.counts q) ∙ sym (length_list_at_push s.issued p o q there));
  below = λ q i id h. ⊎_elim {C = id < suc n}
      (λ (old : IsNumber numbers q i id). let l = w.below q i id old in omega arith)
      (λ (new : (q ≡ p) × (i ≡ length (list_at numbers p)) × (n ≡ id)). let e = new.2 in omega arith)
      (push_at_cases numbers p n q i id h);
  apart = λ q r i j id h k. ⊎_elim {C = (q ≡ r) × (i ≡ j)}
      (λ (old : IsNumber numbers q i id). ⊎_elim {C = (q ≡ r) × (i ≡ j)}
      (λ (also : IsNumber numbers r j id). w.apart q r i j id old also)
      (λ (new : (r ≡ p) × (j ≡ length (list_at numbers p)) × (n ≡ id)). absurd
      (let l = w.below q i id old in let e = new.2 in omega arith))
      (push_at_cases numbers p n r j id k))
      (λ (new : (q ≡ p) × (i ≡ length (list_at numbers p)) × (n ≡ id)). ⊎_elim {C = (q ≡ r) × (i ≡ j)}
      (λ (old : IsNumber numbers r j id). absurd (let l = w.below r j id old in let e = new.2 in omega arith))
      (λ (also : (r ≡ p) × (j ≡ length (list_at numbers p)) × (n ≡ id)). (new.0 ∙ sym also.0, new.1 ∙ sym also.1))
      (push_at_cases numbers p n r j id k))
      (push_at_cases numbers p n q i id h);
  issues = λ x c h. ⊎_elim {C = IsCallOf (push_at numbers p n) (happens tiles s (Issued p o)) c}
      (λ (old : TraceIssuesAt trace x c).
      let f = w.issues x c old in
      record {
        p = f.p;
        i = f.i;
        number = push_at_keeps numbers p n f.p f.i c.id f.number;
        asked = push_at_keeps s.issued p o f.p f.i c.operation f.asked;
      })
      (λ (new : (x ≡ length trace) × (Issue b ≡ Issue c)).
      let same : b ≡ c = one_call b c new.1 in
      subst (λ (f : Call). IsCallOf (push_at numbers p n) (happens tiles s (Issued p o)) f) same call_of_new)
      (get_push_cases trace (Issue b) x (Issue c) h);
  told = λ q i id u h k. ⊎_elim {C = (x : ℕ) × TraceIssuesAt (trace ++ Issue b ∷ []) x
      (record { id = id; operation = u })}
      (λ (old : IsNumber numbers q i id). ⊎_elim {C = (x : ℕ) × TraceIssuesAt (trace ++ Issue b ∷ []) x
      (record { id = id; operation = u })}
      (λ (also : Asks s q i u).
      let r = w.told q i id u old also in
      (r.0, get_append_left trace (Issue b ∷ []) r.0 (Issue (record { id = id; operation = u })) r.1))
      (λ (new : (q ≡ p) × (i ≡ length (list_at s.issued p)) × (o ≡ u)). absurd
      (let l = get_within (list_at numbers q) i id old in
      let c = w.counts q in
      let e : length (list_at s.issued q) ≡ length (list_at s.issued p) = ap
      (λ (m : ℕ). length (list_at s.issued m)) new.0 in
      let f = new.1 in
      omega arith))
      (push_at_cases s.issued p o q i u k))
      (λ (new : (q ≡ p) × (i ≡ length (list_at numbers p)) × (n ≡ id)). ⊎_elim {C = (x : ℕ) × TraceIssuesAt
      (trace ++ Issue b ∷ []) x (record { id = id; operation = u })}
      (λ (old : Asks s q i u). absurd
      (let l = get_within (list_at s.issued q) i u old in
      let c = w.counts p in
      let e : length (list_at s.issued q) ≡ length (list_at s.issued p) = ap
      (λ (m : ℕ). length (list_at s.issued m)) new.0 in
      let f = new.1 in
      omega arith))
      (λ (also : (q ≡ p) × (i ≡ length (list_at s.issued p)) × (o ≡ u)).
      (length trace, get_push trace (Issue b) ∙ same_issue n id o u new.2 also.2))
      (push_at_cases s.issued p o q i u k))
      (push_at_cases numbers p n q i id h);
  answers = λ x id reply h. ⊎_elim {C = (q : ℕ) × (i : ℕ) × IsNumber (push_at numbers p n) q i id × HasAnswered s q i}
      (λ (old : TraceAnswersAt trace x id reply).
      let r = w.answers x id reply old in
      (r.0, r.1, push_at_keeps numbers p n r.0 r.1 id r.2, r.3))
      (λ (new : (x ≡ length trace) × (Issue b ≡ Answer id reply)). absurd (let e = new.1 in cc))
      (get_push_cases trace (Issue b) x (Answer id reply) h);
  places = λ k point h.
      let r = w.places k point h in
      (r.0, push_at_keeps numbers p n point.source point.index r.0 r.1, r.2);
  points = λ k c h.
      let r = w.points k c h in
      record {
        point = r.point;
        there = r.there;
        number = push_at_keeps numbers p n r.point.source r.point.index c.id r.number;
        operation = r.operation;
      };
  same = w.same;
  trace_law = record {
    rising = λ i j a c l h k. ⊎_elim {C = a.id < c.id}
        (λ (old : TraceIssuesAt trace i a). ⊎_elim {C = a.id < c.id}
        (λ (also : TraceIssuesAt trace j c). w.trace_law.rising i j a c l old also)
        (λ (new : (j ≡ length trace) × (Issue b ≡ Issue c)).
        let f = w.issues i a old in
        let m = w.below f.p f.i a.id f.number in
        let e : n ≡ c.id = ap (λ (d : Call). d.id) (one_call b c new.1) in
        omega arith)
        (get_push_cases trace (Issue b) j (Issue c) k))
        (λ (new : (i ≡ length trace) × (Issue b ≡ Issue a)).
        let long = new.0 in
        let short : j < suc (length trace) = within_push trace (Issue b) j (Issue c) k in
        absurd (omega arith))
        (get_push_cases trace (Issue b) i (Issue a) h);
    issued = λ j id reply h. ⊎_elim {C = (i : ℕ) × (c : Call) × (i < j) × (c.id ≡ id) × TraceIssuesAt
        (trace ++ Issue b ∷ []) i c}
        (λ (old : TraceAnswersAt trace j id reply).
        let r = w.trace_law.issued j id reply old in
        (r.0, r.1, r.2, r.3, get_append_left trace (Issue b ∷ []) r.0 (Issue r.1) r.4))
        (λ (new : (j ≡ length trace) × (Issue b ≡ Answer id reply)). absurd (let e = new.1 in cc))
        (get_push_cases trace (Issue b) j (Answer id reply) h);
    once = λ i j id r t h k. w.trace_law.once i j id r t (old_answer i id r h) (old_answer j id t k);
    inside = λ i c h. ⊎_elim {C = c.operation.address < length opening}
        (λ (old : TraceIssuesAt trace i c). w.trace_law.inside i c old)
        (λ (new : (i ≡ length trace) × (Issue b ≡ Issue c)). subst
        (λ (d : Call). d.operation.address < length opening) (one_call b c new.1) may.address)
        (get_push_cases trace (Issue b) i (Issue c) h);
  };
  order_law = record {
    once = w.order_law.once;
    issued = λ x c h. let r = w.order_law.issued x c h in
        (r.0, get_append_left trace (Issue b ∷ []) r.0 (Issue c) r.1);
    answered = λ i id reply h. w.order_law.answered i id reply (old_answer i id reply h);
    real_time = λ i j x y c d reply l h k m q. ⊎_elim {C = x < y}
        (λ (old : TraceIssuesAt trace j d). w.order_law.real_time i j x y c d reply l
        (old_answer i c.id reply h) old m q)
        (λ (new : (j ≡ length trace) × (Issue b ≡ Issue d)).
        let r = w.points y d q in
        let low = w.below r.point.source r.point.index d.id r.number in
        let e : n ≡ d.id = ap (λ (f : Call). f.id) (one_call b d new.1) in
        absurd (omega arith))
        (get_push_cases trace (Issue b) j (Issue d) k);
    replies = λ i x c reply h k. w.order_law.replies i x c reply h (old_answer i c.id reply k);
  };
}
  where
    b : Call
    b = record { id = n; operation = o }

    inside : p < length numbers
    inside = let l = may.source in let e = w.sized in omega arith

    there : p < length s.issued
    there = let l = may.source in let e = w.processors in omega arith

    one_call : (c d : Call) → Issue c ≡ Issue d → c ≡ d
    one_call c d e = cc

    within_push : (xs : List Event) (e : Event) (j : ℕ) (x : Event) → slice_get (xs ++ e ∷ []) j ≡ Some x
        → j < suc (length xs)
    within_push xs e j x h = ⊎_elim {C = j < suc (length xs)}
        (λ (old : slice_get xs j ≡ Some x). let l = get_within xs j x old in omega arith)
        (λ (new : (j ≡ length xs) × (e ≡ x)). let l = new.0 in omega arith)
        (get_push_cases xs e j x h)

    same_issue : (k id : ℕ) (u v : Operation) → k ≡ id → u ≡ v
        → Some (Issue (record { id = k; operation = u })) ≡ Some (Issue (record { id = id; operation = v }))
    same_issue k id u v e f =
        ap (λ (m : ℕ). Some (Issue (record { id = m; operation = u }))) e
        ∙ ap (λ (x : Operation). Some (Issue (record { id = id; operation = x }))) f

    call_of_new : IsCallOf (push_at numbers p n) (happens tiles s (Issued p o)) (record { id = n; operation = o })
    call_of_new = record {
      p = p;
      i = length (list_at numbers p);
      number = push_at_new numbers p n (let l = may.source in let e = w.sized in omega arith);
      asked = ap (λ (m : ℕ). slice_get (list_at (push_at s.issued p o) p) m) (w.counts p)
          ∙ push_at_new s.issued p o (let l = may.source in let e = w.processors in omega arith);
    }

    old_answer : (i id : ℕ) (reply : Reply)
        → TraceAnswersAt (trace ++ Issue (record { id = n; operation = o }) ∷ []) i id reply
        → TraceAnswersAt trace i id reply
    old_answer i id reply h = ⊎_elim {C = TraceAnswersAt trace i id reply}
        (λ (old : TraceAnswersAt trace i id reply). old)
        (λ (new : (i ≡ length trace) × (Issue (record { id = n; operation = o }) ≡ Answer id reply)). absurd
        (let e = new.1 in cc))
        (get_push_cases trace (Issue (record { id = n; operation = o })) i (Answer id reply) h)
