-- What a trace tells of a history is kept where an operation is answered.
use Rattle.std.proofs.Common.{◌≡◌, ⊎_elim, ℕ, zero, suc, ◌<◌, List, [], ◌∷◌, ◌++◌, length, take, Some, None, refl, sym, ◌∙◌, ap, subst}
use Rattle.std.proofs.Common.{arith, slice_get}
use Rattle.std.proofs.lemmas.List.{take-map}
use Rattle.packet.specs.declared.kinds.Operation.{Operation}
use Rattle.packet.specs.declared.kinds.Reply.{Reply}
use Rattle.packet.specs.Memory.{memory_after, memory_after_one, reply_of_one, replies}
use Rattle.one_order.specs.declared.answer.Answer.{Answer as RunAnswer}
use Rattle.one_order.specs.Observed.{Observed, list_at, HasAnswered}
use Rattle.one_order.specs.Order.{LinearizationPoint, operations_of}
use Rattle.one_order.specs.Events.{Answered, happens, MayAnswer}
use Rattle.one_order.proofs.Lists.{push_at_keeps, push_at_new, length-push_at, list_within, within_length}
use Rattle.trace_laws.specs.declared.event.Call.{Call}
use Rattle.trace_laws.specs.declared.event.Event.{Event}
use Rattle.trace_laws.specs.declared.event.Event.TheVariants.{Issue, Answer}
use Rattle.trace_laws.specs.Traces.{TraceIssuesAt, TraceAnswersAt}
use Rattle.trace_laws.specs.Orders.{IsOn, memory_of, operations_of as asked_of}
use Rattle.trace_laws.proofs.Lists.{get_push_cases, get_append_left, get_within}
use Rattle.core_laws.proofs.MachineTold.{IsNumber, IsTold}

-- the reply at a place of a list of operations
reply_at : (os : List Operation) (m : List ℕ) (k : ℕ) (o : Operation) → slice_get os k ≡ Some o
    → slice_get (replies os m) k ≡ Some (reply_of_one o (memory_after (take k os) m))
reply_at [] m k o h = absurd (let e : None ≡ Some o = h in cc)
reply_at (u ∷ os) m zero o h = let e : u ≡ o = cc in ap (λ (v : Operation). Some (reply_of_one v m)) e
reply_at (u ∷ os) m (suc k) o h = reply_at os (memory_after_one u m) k o h

-- what stands in a list stands in its image
map_at : (order : List LinearizationPoint) (k : ℕ) (x : LinearizationPoint) → slice_get order k ≡ Some x
    → slice_get (operations_of order) k ≡ Some x.operation
map_at [] k x h = absurd (let e : None ≡ Some x = h in cc)
map_at (y ∷ order) zero x h = let e : y ≡ x = cc in ap (λ (z : LinearizationPoint). Some z.operation) e
map_at (y ∷ order) (suc k) x h = map_at order k x h

-- an operation is answered
pub told_answer : (tiles : ℕ) (opening : List ℕ) (n : ℕ) (s : Observed) (order : List LinearizationPoint)
    (numbers : List (List ℕ)) (trace : List Event) (calls : List Call)
    → (p : ℕ) (a : RunAnswer) → MayAnswer tiles opening s order p a → (id : ℕ) → IsNumber numbers p a.index id
    → IsTold tiles opening n s order numbers trace calls
    → IsTold tiles opening (suc n) (happens tiles s (Answered p a)) order numbers
    (trace ++ Answer id a.reply ∷ []) calls
told_answer tiles opening n s order numbers trace calls p a may id number w = record {
  processors = w.processors;
  answerers = length-push_at s.answers p a ∙ w.answerers;
  sized = w.sized;
  counts = w.counts;
  below = λ q j m h. let l = w.below q j m h in omega arith;
  apart = w.apart;
  issues = λ x d h. let f = w.issues x d
      (old_issue x d h) in record { p = f.p; i = f.i; number = f.number; asked = f.asked };
  told = λ q j m u h k. let r = w.told q j m u h k in
      (r.0, get_append_left trace (Answer id a.reply ∷ []) r.0 (Issue (record { id = m; operation = u })) r.1);
  answers = λ x m reply h. ⊎_elim {C = (q : ℕ) × (j : ℕ) × IsNumber numbers q j m × HasAnswered
      (happens tiles s (Answered p a)) q j}
      (λ (old : TraceAnswersAt trace x m reply).
      let r = w.answers x m reply old in
      (r.0, r.1, r.2, (r.3.0, r.3.1, push_at_keeps s.answers p a r.0 r.3.0 r.3.1 r.3.2, r.3.3)))
      (λ (new : (x ≡ length trace) × (Answer id a.reply ≡ Answer m reply)). (
        p,
        a.index,
        subst (λ (v : ℕ). IsNumber numbers p a.index v) (one_number m reply new.1) number,
        (length (list_at s.answers p), a, push_at_new s.answers p a there, refl),
      ))
      (get_push_cases trace (Answer id a.reply) x (Answer m reply) h);
  places = w.places;
  points = w.points;
  same = w.same;
  trace_law = record {
    rising = λ i j c d l h k. w.trace_law.rising i j c d l (old_issue i c h) (old_issue j d k);
    issued = λ j m reply h. ⊎_elim {C = (i : ℕ) × (c : Call) × (i < j) × (c.id ≡ m) × TraceIssuesAt
        (trace ++ Answer id a.reply ∷ []) i c}
        (λ (old : TraceAnswersAt trace j m reply).
        let r = w.trace_law.issued j m reply old in
        (r.0, r.1, r.2, r.3, get_append_left trace (Answer id a.reply ∷ []) r.0 (Issue r.1) r.4))
        (λ (new : (j ≡ length trace) × (Answer id a.reply ≡ Answer m reply)). first_issue j m new.0
        (one_number m reply new.1))
        (get_push_cases trace (Answer id a.reply) j (Answer m reply) h);
    once = λ i j m r t h k. ⊎_elim {C = i ≡ j}
        (λ (old : TraceAnswersAt trace i m r). ⊎_elim {C = i ≡ j}
        (λ (also : TraceAnswersAt trace j m t). w.trace_law.once i j m r t old also)
        (λ (new : (j ≡ length trace) × (Answer id a.reply ≡ Answer m t)). absurd
        (not_twice i m r (one_number m t new.1) old))
        (get_push_cases trace (Answer id a.reply) j (Answer m t) k))
        (λ (new : (i ≡ length trace) × (Answer id a.reply ≡ Answer m r)). ⊎_elim {C = i ≡ j}
        (λ (old : TraceAnswersAt trace j m t). absurd (not_twice j m t (one_number m r new.1) old))
        (λ (also : (j ≡ length trace) × (Answer id a.reply ≡ Answer m t)). new.0 ∙ sym also.0)
        (get_push_cases trace (Answer id a.reply) j (Answer m t) k))
        (get_push_cases trace (Answer id a.reply) i (Answer m r) h);
    inside = λ i c h. w.trace_law.inside i c (old_issue i c h);
  };
  order_law = record {
    once = w.order_law.once;
    issued = λ x c h. let r = w.order_law.issued x c h in
        (r.0, get_append_left trace (Answer id a.reply ∷ []) r.0 (Issue c) r.1);
    answered = λ i m reply h. ⊎_elim {C = IsOn calls m}
        (λ (old : TraceAnswersAt trace i m reply). w.order_law.answered i m reply old)
        (λ (new : (i ≡ length trace) × (Answer id a.reply ≡ Answer m reply)).
        (may.tells.k, record { id = id; operation = may.tells.point.operation }, placed, one_number m reply new.1))
        (get_push_cases trace (Answer id a.reply) i (Answer m reply) h);
    real_time = λ i j x y c d reply l h k hx hy. ⊎_elim {C = x < y}
        (λ (old : TraceAnswersAt trace i c.id reply). w.order_law.real_time i j x y c d reply l old
        (old_issue j d k) hx hy)
        (λ (new : (i ≡ length trace) × (Answer id a.reply ≡ Answer c.id reply)). absurd
        (let m = get_within trace j (Issue d) (old_issue j d k) in let e = new.0 in omega arith))
        (get_push_cases trace (Answer id a.reply) i (Answer c.id reply) h);
    replies = λ i x c reply h k. ⊎_elim {C = reply ≡ reply_of_one c.operation (memory_of opening (take x calls))}
        (λ (old : TraceAnswersAt trace i c.id reply). w.order_law.replies i x c reply h old)
        (λ (new : (i ≡ length trace) × (Answer id a.reply ≡ Answer c.id reply)). right x c reply h
        (one_number c.id reply new.1) (one_reply c.id reply new.1))
        (get_push_cases trace (Answer id a.reply) i (Answer c.id reply) k);
  };
}
  where
    there : p < length s.answers
    there = let l = list_within numbers p a.index id number in let e = w.sized in let f = w.answerers in omega arith

    one_number : (m : ℕ) (reply : Reply) → Answer id a.reply ≡ Answer m reply → id ≡ m
    one_number m reply e = cc

    one_reply : (m : ℕ) (reply : Reply) → Answer id a.reply ≡ Answer m reply → a.reply ≡ reply
    one_reply m reply e = cc

    old_issue : (i : ℕ) (c : Call) → TraceIssuesAt (trace ++ Answer id a.reply ∷ []) i c → TraceIssuesAt trace i c
    old_issue i c h = ⊎_elim {C = TraceIssuesAt trace i c}
        (λ (old : TraceIssuesAt trace i c). old)
        (λ (new : (i ≡ length trace) × (Answer id a.reply ≡ Issue c)). absurd (let e = new.1 in cc))
        (get_push_cases trace (Answer id a.reply) i (Issue c) h)

    not_twice : (i m : ℕ) (reply : Reply) → id ≡ m → TraceAnswersAt trace i m reply → ⊥
    not_twice i m reply e h =
        let r = w.answers i m reply h in
        let f = w.apart r.0 p r.1 a.index m r.2 (subst (λ (v : ℕ). IsNumber numbers p a.index v) e number) in
        may.first (subst (λ (v : ℕ). HasAnswered s p v) f.1 (subst (λ (v : ℕ). HasAnswered s v r.1) f.0 r.3))

    placed : slice_get calls may.tells.k ≡ Some (record { id = id; operation = may.tells.point.operation })
    placed =
        let r = w.places may.tells.k may.tells.point may.tells.there in
        let at : IsNumber numbers p a.index r.0 = subst (λ (v : ℕ). IsNumber numbers p v r.0) may.tells.index
        (subst (λ (v : ℕ). IsNumber numbers v may.tells.point.index r.0) may.tells.source r.1) in
        let e : r.0 ≡ id = one_of (list_at numbers p) a.index r.0 id at number in
        r.2 ∙ ap (λ (v : ℕ). Some (record { id = v; operation = may.tells.point.operation })) e
      where
        one_of : (xs : List ℕ) (i x y : ℕ) → slice_get xs i ≡ Some x → slice_get xs i ≡ Some y → x ≡ y
        one_of xs i x y h k = cc

    first_issue : (j m : ℕ) → j ≡ length trace → id ≡ m
        → (i : ℕ) × (c : Call) × (i < j) × (c.id ≡ m) × TraceIssuesAt (trace ++ Answer id a.reply ∷ []) i c
    first_issue j m last e =
        let l = get_within (list_at numbers p) a.index id number in
        let f = w.counts p in
        let u = within_length (list_at s.issued p) a.index (omega arith) in
        let r = w.told p a.index id u.0 number u.1 in
        let short = get_within trace r.0 (Issue (record { id = id; operation = u.0 })) r.1 in (
          r.0,
          record { id = id; operation = u.0 },
          (omega arith),
          e,
          get_append_left trace (Answer id a.reply ∷ []) r.0 (Issue (record { id = id; operation = u.0 })) r.1,
        )

    right : (x : ℕ) (c : Call) (reply : Reply) → slice_get calls x ≡ Some c → id ≡ c.id → a.reply ≡ reply
        → reply ≡ reply_of_one c.operation (memory_of opening (take x calls))
    right x c reply h e f =
        let k = may.tells.k in
        let point = may.tells.point in
        let place = w.order_law.once k x (record { id = id; operation = point.operation }) c placed h e in
        let at : slice_get calls k ≡ Some c = ap (λ (m : ℕ). slice_get calls m) place ∙ h in
        let call = one_call (record { id = id; operation = point.operation }) c k placed at in
        let asked : point.operation ≡ c.operation = ap (λ (d : Call). d.operation) call in
        let found = reply_at (operations_of order) opening k point.operation (map_at order k point may.tells.there) in
        let told : a.reply ≡ reply_of_one point.operation (memory_after (take k (operations_of order)) opening) =
        one_told (replies (operations_of order) opening) k a.reply
        (reply_of_one point.operation
        (memory_after (take k (operations_of order)) opening)) may.tells.reply found in
        let cut : take k (operations_of order) ≡ asked_of (take x calls) =
        ap (λ (os : List Operation). take k os) w.same ∙
        (take-map (λ (d : Call). d.operation) k calls ∙ ap (λ (m : ℕ). asked_of (take m calls)) place) in
        sym f ∙ (told ∙ (ap (λ (os : List Operation). reply_of_one point.operation (memory_after os opening)) cut
        ∙ ap (λ (u : Operation). reply_of_one u (memory_of opening (take x calls))) asked))
      where
        one_call : (c d : Call) (k : ℕ) → slice_get calls k ≡ Some c → slice_get calls k ≡ Some d → c ≡ d
        one_call c d k g h = cc

        one_told : (rs : List Reply) (k : ℕ) (r t : Reply) → slice_get rs k ≡ Some r → slice_get rs k ≡ Some t
            → r ≡ t
        one_told rs k r t g h = cc
