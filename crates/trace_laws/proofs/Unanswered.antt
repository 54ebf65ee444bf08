-- Loads that are never answered leave an order, and may be left out.
use Rattle.std.proofs.Common.{◌≡◌, ◌≢◌, ◌⊎◌, ◌↔◌, inl, inr, ⊎_elim, ℕ, zero, suc, ◌<◌, ◌≤◌, List, [], ◌∷◌, length, Some, refl, sym, ◌∙◌, ap, subst, arith, slice_get, take}
use Rattle.std.proofs.lemmas.Bool.{cases_eq, cases_lt}
use Rattle.std.proofs.lemmas.List.{set-get_or}
use Rattle.packet.specs.declared.kinds.Op.{Op}
use Rattle.packet.specs.declared.kinds.Op.TheVariants.{Load, Store, Swap, Cas, Add, And, Or, Xor, Max, Min}
use Rattle.packet.specs.declared.kinds.Operation.{Operation}
use Rattle.packet.specs.declared.kinds.Reply.{Reply}
use Rattle.packet.specs.Memory.{memory_after, memory_after_one, reply_of_one}
use Rattle.trace_laws.specs.declared.event.Call.{Call}
use Rattle.trace_laws.specs.declared.event.Event.{Event}
use Rattle.trace_laws.specs.declared.event.Event.TheVariants.{Issue, Answer}
use Rattle.trace_laws.specs.Traces.{IsTrace, TraceAnswersAt, IsAnswered}
use Rattle.trace_laws.specs.Orders.{IsOrder, IsLinearizable, memory_of, operations_of}
use Rattle.trace_laws.specs.Unanswered.{IsUnansweredLoad, IssuesUnansweredLoad, IssuesUnanswered, IsResponse, IsWithout, HasNoUnansweredLoad}
use Rattle.trace_laws.proofs.Issues.{one_issue}
use Rattle.trace_laws.proofs.Lists.{same_get}
use Rattle.trace_laws.proofs.Without.{There, forth, forth_both, back}

is_load : (op : Op) → (op ≡ Load) ⊎ (op ≡ Load → ⊥)
is_load Load = inl refl
is_load (Store v) = inr (λ e. cc)
is_load (Swap v) = inr (λ e. cc)
is_load (Cas e n) = inr (λ e. cc)
is_load (Add v) = inr (λ e. cc)
is_load (And v) = inr (λ e. cc)
is_load (Or v) = inr (λ e. cc)
is_load (Xor v) = inr (λ e. cc)
is_load (Max v) = inr (λ e. cc)
is_load (Min v) = inr (λ e. cc)

is_answered : (trace : List Event) (id : ℕ) → IsAnswered trace id ⊎ (IsAnswered trace id → ⊥)
is_answered [] id = inr (λ h. cc (h.2))
is_answered (Issue c ∷ trace) id = ⊎_elim
    (λ (h : IsAnswered trace id). inl (suc h.0, h.1, h.2))
    (λ (none : IsAnswered trace id → ⊥). inr (λ h. later none h.0 h.1 h.2))
    (is_answered trace id)
  where
    later : (IsAnswered trace id → ⊥) → (i : ℕ) (reply : Reply) → TraceAnswersAt (Issue c ∷ trace) i id reply → ⊥
    later none zero reply h = cc (h)
    later none (suc i) reply h = none (i, reply, h)
is_answered (Answer n told ∷ trace) id = ⊎_elim
    (λ (e : n ≡ id). inl (0, told, ap (λ (m : ℕ). Some (Answer m told)) e))
    (λ (ne : n ≢ id). ⊎_elim
    (λ (h : IsAnswered trace id). inl (suc h.0, h.1, h.2))
    (λ (none : IsAnswered trace id → ⊥). inr (λ h. later ne none h.0 h.1 h.2))
    (is_answered trace id))
    (cases_eq n id)
  where
    later : n ≢ id → (IsAnswered trace id → ⊥) → (i : ℕ) (reply : Reply)
        → TraceAnswersAt (Answer n told ∷ trace) i id reply → ⊥
    later ne none zero reply h = let e : n ≡ id = cc in ne e
    later ne none (suc i) reply h = none (i, reply, h)

is_unanswered_load : (trace : List Event) (c : Call) → IsUnansweredLoad trace c ⊎ (IsUnansweredLoad trace c → ⊥)
is_unanswered_load trace c = ⊎_elim
    (λ (load : c.operation.op ≡ Load). ⊎_elim
    (λ (h : IsAnswered trace c.id). inr (λ is. is.never h))
    (λ (none : IsAnswered trace c.id → ⊥). inl (record { load = load; never = none }))
    (is_answered trace c.id))
    (λ (other : c.operation.op ≡ Load → ⊥). inr (λ is. other is.load))
    (is_load c.operation.op)

-- an order without them
without_unanswered : (trace : List Event) (order : List Call)
    → (short : List Call) × IsWithout (IsUnansweredLoad trace) order short × HasNoUnansweredLoad trace short
without_unanswered trace [] = ([], refl, λ x c h is. cc (h))
without_unanswered trace (c ∷ order) =
    let rest = without_unanswered trace order in
    ⊎_elim
    (λ (is : IsUnansweredLoad trace c). (rest.0, inr (is, rest.1), rest.2))
    (λ (other : IsUnansweredLoad trace c → ⊥). (
      c ∷ rest.0,
      inl (rest.0, refl, rest.1),
      none rest.0 other rest.2,
    ))
    (is_unanswered_load trace c)
  where
    none : (short : List Call) → (IsUnansweredLoad trace c → ⊥) → HasNoUnansweredLoad trace short
        → HasNoUnansweredLoad trace (c ∷ short)
    none short other fine zero d h is =
        let e : c ≡ d = cc in other (subst (λ (f : Call). IsUnansweredLoad trace f) (sym e) is)
    none short other fine (suc x) d h is = fine x d h is

-- a load leaves the memory
load_leaves : (o : Operation) (m : List ℕ) → o.op ≡ Load → memory_after_one o m ≡ m
load_leaves o m e =
    rw e (set-get_or m o.address 0)

-- an operation of the shorter order finds the memory that it finds in the longer one
same_memory : (trace : List Event) (opening : List ℕ) (long short : List Call)
    → IsWithout (IsUnansweredLoad trace) long short → (x : ℕ) (c : Call) → slice_get short x ≡ Some c
    → (y : ℕ) × (slice_get long y ≡ Some c) × (memory_of opening (take x short) ≡ memory_of opening (take y long))
same_memory trace opening [] short without x c h = absurd
    (let none : slice_get [] x ≡ Some c = subst (λ (s : List Call). slice_get s x ≡ Some c) without h in cc)
same_memory trace opening (d ∷ long) short without x c h = ⊎_elim
    {C = (y : ℕ) × (slice_get (d ∷ long) y ≡ Some c) × (memory_of opening (take x short) ≡ memory_of opening (take y (d ∷ long)))}
    (λ (r : (rest : List Call) × (short ≡ d ∷ rest) × IsWithout (IsUnansweredLoad trace) long rest).
    let e = r.1 in
    let found = kept r.0 (λ n g. same_memory trace (memory_after_one d.operation opening) long r.0 r.2 n c g) x (subst (λ (s : List Call). slice_get s x ≡ Some c) e h) in
    (found.0, found.1, ap (λ (s : List Call). memory_of opening (take x s)) e ∙ found.2))
    (λ (r : IsUnansweredLoad trace d × IsWithout (IsUnansweredLoad trace) long short).
    let found = same_memory trace opening long short r.1 x c h in (
      suc found.0,
      found.1,
      found.2 ∙ ap (λ (m : List ℕ). memory_after (operations_of (take found.0 long)) m)
          (sym (load_leaves d.operation opening r.0.load)),
    ))
    without
  where
    kept : (rest : List Call) → ((n : ℕ) → slice_get rest n ≡ Some c → (y : ℕ) × (slice_get long y ≡ Some c)
        × (memory_of (memory_after_one d.operation opening) (take n rest)
        ≡ memory_of (memory_after_one d.operation opening) (take y long)))
        → (n : ℕ) → slice_get (d ∷ rest) n ≡ Some c
        → (y : ℕ) × (slice_get (d ∷ long) y ≡ Some c)
        × (memory_of opening (take n (d ∷ rest)) ≡ memory_of opening (take y (d ∷ long)))
    kept rest later zero g = (0, g, refl)
    kept rest later (suc n) g = let found = later n g in (suc found.0, found.1, found.2)

-- an order that explains a trace does so without them
fewer_order : (opening : List ℕ) (trace : List Event) (order short : List Call) → IsOrder opening trace order
    → IsWithout (IsUnansweredLoad trace) order short → IsOrder opening trace short
fewer_order opening trace order short o without = record {
  once = λ x y c d h g e. apart x y c d h g e;
  issued = λ x c h. let there = forth P order short without x c h in o.issued there.0 c there.1;
  answered = λ i id reply answer.
      let on = o.answered i id reply answer in
      let there = back P order short without on.0 on.1 on.2
      (λ is. is.never (i, reply, subst (λ (n : ℕ). TraceAnswersAt trace i n reply) (sym on.3) answer)) in
      (there.0, on.1, there.1, on.3);
  real_time = λ i j x y c d reply l answer issue h g. ⊎_elim
      (λ (low : x < y). low)
      (λ (high : y ≤ x). ⊎_elim
      (λ (e : y ≡ x). absurd
      (let there = forth P order short without x c h in
      let same : c ≡ d = same_get short x c d h (ap (λ (n : ℕ). slice_get short n) (sym e) ∙ g) in
      let wrong = o.real_time i j there.0 there.0 c d reply l answer issue there.1
      (subst (λ (f : Call). slice_get order there.0 ≡ Some f) same there.1) in
      omega arith))
      (λ (ne : y ≢ x). absurd
      (let both = forth_both P order short without y x d c (omega arith) g h in
      let wrong = o.real_time i j both.1 both.0 c d reply l answer issue both.4 both.3 in
      let less = both.2 in
      omega arith))
      (cases_eq y x))
      (cases_lt x y);
  replies = λ i x c reply h answer.
      let there = same_memory trace opening order short without x c h in
      o.replies i there.0 c reply there.1 answer
      ∙ ap (λ (m : List ℕ). reply_of_one c.operation m) (sym there.2);
}
  where
    P : Call → Type 0
    P = IsUnansweredLoad trace

    apart : (x y : ℕ) (c d : Call) → slice_get short x ≡ Some c → slice_get short y ≡ Some d → c.id ≡ d.id → x ≡ y
    apart x y c d h g e = ⊎_elim
        (λ (low : x < y). absurd
        (let both = forth_both P order short without x y c d low h g in
        let same = o.once both.0 both.1 c d both.3 both.4 e in
        let less = both.2 in
        omega arith))
        (λ (high : y ≤ x). ⊎_elim
        (λ (same : y ≡ x). sym same)
        (λ (ne : y ≢ x). absurd
        (let both = forth_both P order short without y x d c (omega arith) g h in
        let same = o.once both.0 both.1 d c both.3 both.4 (sym e) in
        let less = both.2 in
        omega arith))
        (cases_eq y x))
        (cases_lt x y)

pub heard_order : (opening : List ℕ) (trace : List Event) (order : List Call) → IsOrder opening trace order
    → (short : List Call) × IsOrder opening trace short × HasNoUnansweredLoad trace short
heard_order opening trace order o =
    let r = without_unanswered trace order in
    (r.0, fewer_order opening trace order r.0 o r.1, r.2)

-- an order without them explains the trace without them
to_short : (opening : List ℕ) (trace short : List Event) (order : List Call) → IsOrder opening trace order
    → HasNoUnansweredLoad trace order → IsWithout (IssuesUnansweredLoad trace) trace short → IsOrder opening short order
to_short opening trace short order o heard without = record {
  once = o.once;
  issued = λ x c h.
      let issue = o.issued x c h in
      back P trace short without issue.0 (Issue c) issue.1
      (λ is. heard x c h (let e = is.1 in let same : is.0 ≡ c = cc in subst (λ (d : Call). IsUnansweredLoad trace d) same is.2));
  answered = λ i id reply answer.
      let there = forth P trace short without i (Answer id reply) answer in o.answered there.0 id reply there.1;
  real_time = λ i j x y c d reply l answer issue h g.
      let both = forth_both P trace short without i j (Answer c.id reply) (Issue d) l answer issue in
      o.real_time both.0 both.1 x y c d reply both.2 both.3 both.4 h g;
  replies = λ i x c reply h answer.
      let there = forth P trace short without i (Answer c.id reply) answer in o.replies there.0 x c reply h there.1;
}
  where
    P : Event → Type 0
    P = IssuesUnansweredLoad trace

-- an order of a trace without some operations that are never answered explains the trace
pub to_long : (opening : List ℕ) (words : ℕ) (trace short : List Event) (order : List Call) → IsTrace words trace
    → IsOrder opening short order
    → IsWithout (IssuesUnanswered trace) trace short → IsOrder opening trace order
to_long opening words trace short order t o without = record {
  once = o.once;
  issued = λ x c h. let issue = o.issued x c h in forth P trace short without issue.0 (Issue c) issue.1;
  answered = λ i id reply answer. let there = told i id reply answer in o.answered there.0 id reply there.1;
  real_time = λ i j x y c d reply l answer issue h g.
      let p = told i c.id reply answer in
      let q = o.issued y d g in
      ⊎_elim
      (λ (low : p.0 < q.0). o.real_time p.0 q.0 x y c d reply low p.1 q.1 h g)
      (λ (high : q.0 ≤ p.0). ⊎_elim
      (λ (e : q.0 ≡ p.0). absurd
      (let there : slice_get short q.0 ≡ Some (Answer c.id reply) = ap (λ (n : ℕ). slice_get short n) e ∙ p.1 in
      let here : slice_get short q.0 ≡ Some (Issue d) = q.1 in cc))
      (λ (ne : q.0 ≢ p.0). absurd
      (let both = forth_both P trace short without q.0 p.0 (Issue d) (Answer c.id reply) (omega arith) q.1 p.1 in
      let issue_at = one_issue words trace t both.0 j d d both.3 issue refl in
      let answer_at = t.once both.1 i c.id reply reply both.4 answer in
      let less = both.2 in
      omega arith))
      (cases_eq q.0 p.0))
      (cases_lt p.0 q.0);
  replies = λ i x c reply h answer. let there = told i c.id reply answer in o.replies there.0 x c reply h there.1;
}
  where
    P : Event → Type 0
    P = IssuesUnanswered trace

    told : (i id : ℕ) (reply : Reply) → TraceAnswersAt trace i id reply → There short (Answer id reply)
    told i id reply answer = back P trace short without i (Answer id reply) answer (λ is. let e = is.1 in cc)

-- an order of a trace explains it without some of its answers
pub to_fewer_answers : (opening : List ℕ) (trace fewer : List Event) (order : List Call) → IsOrder opening trace order
    → IsWithout IsResponse trace fewer → IsOrder opening fewer order
to_fewer_answers opening trace fewer order o without = record {
  once = o.once;
  issued = λ x c h.
      let issue = o.issued x c h in
      back IsResponse trace fewer without issue.0 (Issue c) issue.1 (λ is. let e = is.2 in cc);
  answered = λ i id reply answer.
      let there = forth IsResponse trace fewer without i (Answer id reply) answer in
      o.answered there.0 id reply there.1;
  real_time = λ i j x y c d reply l answer issue h g.
      let both = forth_both IsResponse trace fewer without i j (Answer c.id reply) (Issue d) l answer issue in
      o.real_time both.0 both.1 x y c d reply both.2 both.3 both.4 h g;
  replies = λ i x c reply h answer.
      let there = forth IsResponse trace fewer without i (Answer c.id reply) answer in
      o.replies there.0 x c reply h there.1;
}

-- loads that are never answered are such operations
loads_are : (trace long short : List Event) → IsWithout (IssuesUnansweredLoad trace) long short
    → IsWithout (IssuesUnanswered trace) long short
loads_are trace [] short without = without
loads_are trace (e ∷ long) short without = ⊎_elim
    (λ (r : (rest : List Event) × (short ≡ e ∷ rest) × IsWithout (IssuesUnansweredLoad trace) long rest).
    inl (r.0, r.1, loads_are trace long r.0 r.2))
    (λ (r : IssuesUnansweredLoad trace e × IsWithout (IssuesUnansweredLoad trace) long short).
    inr ((r.0.0, r.0.1, r.0.2.never), loads_are trace long short r.1))
    without

pub without_loads : (opening : List ℕ) (trace short : List Event) → IsTrace (length opening) trace
    → IsWithout (IssuesUnansweredLoad trace) trace short → IsLinearizable opening trace ↔ IsLinearizable opening short
without_loads opening trace short t without = (
  λ is.
      let spare = heard_order opening trace is.0 is.1 in
      (spare.0, to_short opening trace short spare.0 spare.1 spare.2 without),
  λ is. (is.0, to_long opening (length opening) trace short is.0 t is.1 (loads_are trace trace short without)),
)
