-- What a trace tells of a history is kept where an operation is served.
use Rattle.std.proofs.Common.{◌≡◌, ⊎_elim, ℕ, suc, ◌<◌, List, [], ◌∷◌, ◌++◌, length, take, Some, refl, sym, ◌∙◌, ap, subst}
use Rattle.std.proofs.Common.{arith, slice_get}
use Rattle.std.proofs.lemmas.List.{map_push, take-append-le, length-map}
use Rattle.packet.specs.declared.kinds.Operation.{Operation}
use Rattle.packet.specs.declared.kinds.Reply.{Reply}
use Rattle.packet.specs.Memory.{reply_of_one, replies}
use Rattle.torus.specs.declared.step.Tag.{Tag}
use Rattle.one_order.specs.Observed.{Observed}
use Rattle.one_order.specs.Order.{LinearizationPoint, operations_of}
use Rattle.one_order.specs.Events.{Served, happens, MayServe}
use Rattle.trace_laws.specs.declared.event.Call.{Call}
use Rattle.trace_laws.specs.declared.event.Event.{Event}
use Rattle.trace_laws.specs.Traces.{TraceIssuesAt, TraceAnswersAt}
use Rattle.trace_laws.specs.Orders.{IsOn, memory_of, operations_of as asked_of}
use Rattle.trace_laws.proofs.Lists.{get_push_cases, get_append_left, get_push, get_within}
use Rattle.trace_laws.proofs.Issues.{on_push}
use Rattle.core_laws.proofs.MachineTold.{IsNumber, IsPointOf, IsTold}

-- as many operations are in the order under their numbers as are in the order
lengths_same : (order : List LinearizationPoint) (calls : List Call) → operations_of order ≡ asked_of calls
    → length order ≡ length calls
lengths_same order calls e =
    sym (length-map order (λ (x : LinearizationPoint). x.operation))
    ∙ (ap (λ (os : List Operation). length os) e ∙ length-map calls (λ (c : Call). c.operation))

-- an operation is served
pub told_serve : (tiles tags : ℕ) (opening : List ℕ) (n : ℕ) (s : Observed) (order : List LinearizationPoint)
    (numbers : List (List ℕ)) (trace : List Event) (calls : List Call)
    → (p i : ℕ) (tag : Tag) (o : Operation) → MayServe tiles tags s order p i tag o → (id : ℕ)
    → IsNumber numbers p i id
    → IsTold tiles opening n s order numbers trace calls
    → IsTold tiles opening (suc n) (happens tiles s (Served p i tag o))
    (order ++ record { source = p; index = i; operation = o; step = suc n } ∷ [])
    numbers trace (calls ++ record { id = id; operation = o } ∷ [])
told_serve tiles tags opening n s order numbers trace calls p i tag o may id number w = record {
  processors = w.processors;
  answerers = w.answerers;
  sized = w.sized;
  counts = w.counts;
  below = λ q j m h. let l = w.below q j m h in omega arith;
  apart = w.apart;
  issues = λ x d h. let f = w.issues x d h in record { p = f.p; i = f.i; number = f.number; asked = f.asked };
  told = w.told;
  answers = w.answers;
  places = λ k point h. ⊎_elim {C = (m : ℕ) × IsNumber numbers point.source point.index m ×
      (slice_get (calls ++ c ∷ []) k ≡ Some (record { id = m; operation = point.operation }))}
      (λ (old : slice_get order k ≡ Some point).
      let r = w.places k point old in
      (r.0, r.1, get_append_left calls (c ∷ []) k (record { id = r.0; operation = point.operation }) r.2))
      (λ (new : (k ≡ length order) × (q ≡ point)).
      let last : k ≡ length calls = new.0 ∙ lengths_same order calls w.same in
      subst (λ (x : LinearizationPoint). (m : ℕ) × IsNumber numbers x.source x.index m ×
      (slice_get (calls ++ c ∷ []) k ≡ Some (record { id = m; operation = x.operation })))
      new.1 (id, number, ap (λ (m : ℕ). slice_get (calls ++ c ∷ []) m) last ∙ get_push calls c))
      (get_push_cases order q k point h);
  points = λ k d h. ⊎_elim {C = IsPointOf numbers (order ++ q ∷ []) k d}
      (λ (old : slice_get calls k ≡ Some d).
      let r = w.points k d old in
      record {
        point = r.point;
        there = get_append_left order
            (q ∷ []) k r.point r.there;
        number = r.number;
        operation = r.operation;
      })
      (λ (new : (k ≡ length calls) × (c ≡ d)).
      let last : k ≡ length order = new.0 ∙ sym (lengths_same order calls w.same) in
      subst (λ (e : Call). IsPointOf numbers (order ++ q ∷ []) k e) new.1 (record {
        point = q;
        there = ap (λ (m : ℕ). slice_get (order ++ q ∷ []) m) last ∙ get_push order q;
        number = number;
        operation = refl;
      }))
      (get_push_cases calls c k d h);
  same = map_push (λ (x : LinearizationPoint). x.operation) order q
      ∙ (ap (λ (os : List Operation). os ++ o ∷ []) w.same ∙ sym (map_push (λ (d : Call). d.operation) calls c));
  trace_law = w.trace_law;
  order_law = record {
    once = λ x y d e h k same. ⊎_elim {C = x ≡ y}
        (λ (old : slice_get calls x ≡ Some d). ⊎_elim {C = x ≡ y}
        (λ (also : slice_get calls y ≡ Some e). w.order_law.once x y d e old also same)
        (λ (new : (y ≡ length calls) × (c ≡ e)). absurd
        (waits (x, d, old, same ∙ sym (ap (λ (f : Call). f.id) new.1))))
        (get_push_cases calls c y e k))
        (λ (new : (x ≡ length calls) × (c ≡ d)). ⊎_elim {C = x ≡ y}
        (λ (old : slice_get calls y ≡ Some e). absurd
        (waits (y, e, old, sym same ∙ sym (ap (λ (f : Call). f.id) new.1))))
        (λ (also : (y ≡ length calls) × (c ≡ e)). new.0 ∙ sym also.0)
        (get_push_cases calls c y e k))
        (get_push_cases calls c x d h);
    issued = λ x d h. ⊎_elim {C = (j : ℕ) × TraceIssuesAt trace j d}
        (λ (old : slice_get calls x ≡ Some d). w.order_law.issued x d old)
        (λ (new : (x ≡ length calls) × (c ≡ d)). subst (λ (e : Call). (j : ℕ) × TraceIssuesAt trace j e) new.1
        (w.told p i id o number may.issued))
        (get_push_cases calls c x d h);
    answered = λ j m reply h. on_push calls c m (w.order_law.answered j m reply h);
    real_time = λ a j x y d e reply l h k hx hy. ⊎_elim {C = x < y}
        (λ (old : slice_get calls x ≡ Some d). ⊎_elim {C = x < y}
        (λ (also : slice_get calls y ≡ Some e). w.order_law.real_time a j x y d e reply l h k old also)
        (λ (new : (y ≡ length calls) × (c ≡ e)). let m = get_within calls x d old in let f = new.0 in omega arith)
        (get_push_cases calls c y e hy))
        (λ (new : (x ≡ length calls) × (c ≡ d)). absurd (unanswered a d reply new.1 h))
        (get_push_cases calls c x d hx);
    replies = λ j x d reply h k. ⊎_elim {C = reply ≡ reply_of_one d.operation
        (memory_of opening (take x (calls ++ c ∷ [])))}
        (λ (old : slice_get calls x ≡ Some d).
        let l = get_within calls x d old in
        let e : take x (calls ++ c ∷ []) ≡ take x calls = take-append-le x calls (c ∷ []) (omega arith) in
        w.order_law.replies j x d reply old k ∙ ap
        (λ (xs : List Call). reply_of_one d.operation (memory_of opening xs)) (sym e))
        (λ (new : (x ≡ length calls) × (c ≡ d)). absurd (unanswered j d reply new.1 k))
        (get_push_cases calls c x d h);
  };
}
  where
    c : Call
    c = record { id = id; operation = o }

    q : LinearizationPoint
    q = record { source = p; index = i; operation = o; step = suc n }

    waits : IsOn calls id → ⊥
    waits on =
        let r = w.points on.0 on.1 on.2 in
        let e = w.apart r.point.source p r.point.index i id
        (subst (λ (m : ℕ). IsNumber numbers r.point.source r.point.index m) on.3 r.number) number in
        may.waits (on.0, r.point, r.there, e.0, e.1)

    unanswered : (j : ℕ) (d : Call) (reply : Reply) → record { id = id; operation = o } ≡ d
        → TraceAnswersAt trace j d.id reply → ⊥
    unanswered j d reply e h =
        let on : IsOn calls d.id = w.order_law.answered j d.id reply h in
        waits (on.0, on.1, on.2, on.3 ∙ sym (ap (λ (f : Call). f.id) e))
