-- Paths lead to orders that explain the trace, and each such order has a path.
use Rattle.std.proofs.Common.{◌≡◌, ◌≢◌, ◌⊎◌, inl, inr, ⊎_elim, ℕ, zero, suc, ◌+◌, ◌<◌, ◌≤◌, List, [], ◌∷◌, ◌++◌, length, Some, None, refl, sym, ◌∙◌, ap}
use Rattle.std.proofs.Common.{subst, arith, slice_get, take}
use Rattle.std.proofs.lemmas.Bool.{cases_eq, cases_lt}
use Rattle.std.proofs.lemmas.List.{take-append-le, take_all, take-take}
use Rattle.packet.specs.declared.kinds.Reply.{Reply}
use Rattle.packet.specs.Memory.{reply_of_one}
use Rattle.trace_laws.specs.declared.event.Call.{Call}
use Rattle.trace_laws.specs.declared.event.Event.{Event}
use Rattle.trace_laws.specs.declared.event.Event.TheVariants.{Issue, Answer}
use Rattle.trace_laws.specs.Traces.{IsTrace, TraceIssuesAt, TraceAnswersAt, IsUnanswered}
use Rattle.trace_laws.specs.Orders.{IsOn, IsOrder, memory_of}
use Rattle.trace_laws.specs.Paths.{Moment, Happens, Takes, Replied, MomentMayHappen, MayTakeEffect, IsPath, HasPath}
use Rattle.trace_laws.proofs.Lists.{get_push_cases, get_within, within_length, get_take, take_get, take_push}
use Rattle.trace_laws.proofs.Issues.{one_issue, on_push, issued_early}

-- the order explains the trace up to event k
pub record Explains (opening : List ℕ) (trace : List Event) (k : ℕ) (order : List Call) : Type 0 where
  pub once : (x y : ℕ) (c d : Call) → slice_get order x ≡ Some c → slice_get order y ≡ Some d → c.id ≡ d.id
      → x ≡ y
  pub issued : (x : ℕ) (c : Call) → slice_get order x ≡ Some c → (i : ℕ) × (i < k) × TraceIssuesAt trace i c
  pub answered : (i id : ℕ) (reply : Reply) → i < k → TraceAnswersAt trace i id reply → IsOn order id
  pub real_time : (i j x y : ℕ) (c d : Call) (reply : Reply) → i < j → TraceAnswersAt trace i c.id reply
      → TraceIssuesAt trace j d
      → slice_get order x ≡ Some c → slice_get order y ≡ Some d → x < y
  pub replies : (i x : ℕ) (c : Call) (reply : Reply) → i < k → slice_get order x ≡ Some c
      → TraceAnswersAt trace i c.id reply
      → reply ≡ reply_of_one c.operation (memory_of opening (take x order))

explains_none : (opening : List ℕ) (trace : List Event) → Explains opening trace 0 []
explains_none opening trace = record {
  once = λ x y c d h k e. cc;
  issued = λ x c h. absurd (let n : None ≡ Some c = h in cc);
  answered = λ i id reply l h. absurd (omega arith);
  real_time = λ i j x y c d reply l h k m n. absurd (let e : None ≡ Some c = m in cc);
  replies = λ i x c reply l h k. absurd (omega arith);
}

explains_happen : (opening : List ℕ) (trace : List Event) (k : ℕ) (order : List Call)
    → MomentMayHappen opening trace k order → Explains opening trace k order → Explains opening trace (suc k) order
explains_happen opening trace k order may was = record {
  once = was.once;
  issued = λ x c h. let r = was.issued x c h in (r.0, omega arith, r.2);
  answered = λ i other told l h. ⊎_elim {C = IsOn order other}
      (λ (e : i ≡ k). ⊎_elim {C = IsOn order other}
      (λ (r : (call : Call) × TraceIssuesAt trace k call). absurd
      (let a : slice_get trace k ≡ Some (Answer other told) = ap (λ (n : ℕ). slice_get trace n) (sym e) ∙ h in
      let b : slice_get trace k ≡ Some (Issue r.0) = r.1 in cc))
      (λ (r : (id : ℕ) × (reply : Reply) × TraceAnswersAt trace k id reply × Replied opening order id reply).
      let a : slice_get trace k ≡ Some (Answer other told) = ap (λ (n : ℕ). slice_get trace n) (sym e) ∙ h in
      let b : slice_get trace k ≡ Some (Answer r.0 r.1) = r.2 in
      let same : r.0 ≡ other = cc in
      (r.3.0, r.3.1, r.3.2, r.3.3 ∙ same))
      may)
      (λ (ne : i ≢ k). was.answered i other told (omega arith) h)
      (cases_eq i k);
  real_time = was.real_time;
  replies = λ i x c told l h m. ⊎_elim {C = told ≡ reply_of_one c.operation (memory_of opening (take x order))}
      (λ (e : i ≡ k).
      let a : slice_get trace k ≡ Some (Answer c.id told) = ap (λ (n : ℕ). slice_get trace n) (sym e) ∙ m in
      ⊎_elim {C = told ≡ reply_of_one c.operation (memory_of opening (take x order))}
      (λ (r : (call : Call) × TraceIssuesAt trace k call). absurd
      (let b : slice_get trace k ≡ Some (Issue r.0) = r.1 in cc))
      (λ (r : (id : ℕ) × (reply : Reply) × TraceAnswersAt trace k id reply × Replied opening order id reply).
      let b : slice_get trace k ≡ Some (Answer r.0 r.1) = r.2 in
      let id : r.0 ≡ c.id = cc in
      let reply : r.1 ≡ told = cc in
      let place = was.once r.3.0 x r.3.1 c r.3.2 h (r.3.3 ∙ id) in
      let at : slice_get order x ≡ Some r.3.1 = ap (λ (n : ℕ). slice_get order n) (sym place) ∙ r.3.2 in
      let same : r.3.1 ≡ c = cc in
      sym reply ∙ (r.3.4 ∙ (ap (λ (d : Call). reply_of_one d.operation (memory_of opening (take r.3.0 order))) same
      ∙ ap (λ (n : ℕ). reply_of_one c.operation (memory_of opening (take n order))) place)))
      may)
      (λ (ne : i ≢ k). was.replies i x c told (omega arith) h m)
      (cases_eq i k);
}

explains_take : (words : ℕ) (opening : List ℕ) (trace : List Event) → IsTrace words trace
    → (k : ℕ) (order : List Call) (c : Call) → MayTakeEffect trace k order c
    → Explains opening trace k order → Explains opening trace k (order ++ c ∷ [])
explains_take words opening trace t k order c may was = record {
  once = λ x y d e h m same. ⊎_elim {C = x ≡ y}
      (λ (hx : slice_get order x ≡ Some d). ⊎_elim {C = x ≡ y}
      (λ (hy : slice_get order y ≡ Some e). was.once x y d e hx hy same)
      (λ (ny : (y ≡ length order) × (c ≡ e)). absurd (may.new (x, d, hx, same ∙ sym (ap (λ (f : Call). f.id) ny.1))))
      (get_push_cases order c y e m))
      (λ (nx : (x ≡ length order) × (c ≡ d)). ⊎_elim {C = x ≡ y}
      (λ (hy : slice_get order y ≡ Some e). absurd
      (may.new (y, e, hy, sym same ∙ sym (ap (λ (f : Call). f.id) nx.1))))
      (λ (ny : (y ≡ length order) × (c ≡ e)). nx.0 ∙ sym ny.0)
      (get_push_cases order c y e m))
      (get_push_cases order c x d h);
  issued = λ x d h. ⊎_elim {C = (i : ℕ) × (i < k) × TraceIssuesAt trace i d}
      (λ (hx : slice_get order x ≡ Some d). was.issued x d hx)
      (λ (nx : (x ≡ length order) × (c ≡ d)).
      (may.at, may.early, subst (λ (f : Call). TraceIssuesAt trace may.at f) nx.1 may.issue))
      (get_push_cases order c x d h);
  answered = λ j id reply before h. on_push order c id (was.answered j id reply before h);
  real_time = λ a j x y d e reply before h m hx hy. ⊎_elim {C = x < y}
      (λ (ox : slice_get order x ≡ Some d). ⊎_elim {C = x < y}
      (λ (oy : slice_get order y ≡ Some e). was.real_time a j x y d e reply before h m ox oy)
      (λ (ny : (y ≡ length order) × (c ≡ e)). let w = get_within order x d ox in omega arith)
      (get_push_cases order c y e hy))
      (λ (nx : (x ≡ length order) × (c ≡ d)).
      let late : k ≤ a = may.unanswered a reply
      (subst (λ (f : Call). TraceAnswersAt trace a f.id reply) (sym nx.1) h) in
      ⊎_elim {C = x < y}
      (λ (oy : slice_get order y ≡ Some e).
      let r = was.issued y e oy in
      let same = one_issue words trace t r.0 j e e r.2 m refl in
      let l = r.1 in
      absurd (omega arith))
      (λ (ny : (y ≡ length order) × (c ≡ e)).
      let same = one_issue words trace t may.at j c e may.issue m (ap (λ (f : Call). f.id) ny.1) in
      let l = may.early in
      absurd (omega arith))
      (get_push_cases order c y e hy))
      (get_push_cases order c x d hx);
  replies = λ j x d reply l h m. ⊎_elim {C = reply ≡ reply_of_one d.operation
      (memory_of opening (take x (order ++ c ∷ [])))}
      (λ (ox : slice_get order x ≡ Some d).
      let w = get_within order x d ox in
      let e : take x (order ++ c ∷ []) ≡ take x order = take-append-le x order (c ∷ []) (omega arith) in
      was.replies j x d reply l ox m ∙ ap (λ (o : List Call). reply_of_one d.operation (memory_of opening o)) (sym e))
      (λ (nx : (x ≡ length order) × (c ≡ d)).
      let late : k ≤ j = may.unanswered j reply
      (subst (λ (f : Call). TraceAnswersAt trace j f.id reply) (sym nx.1) m) in
      absurd (omega arith))
      (get_push_cases order c x d h);
}

explained : (words : ℕ) (opening : List ℕ) (trace : List Event) → IsTrace words trace
    → (moves : List Moment) (k : ℕ) (order last : List Call) → Explains opening trace k order
    → IsPath opening trace moves k order last → IsOrder opening trace last
explained words opening trace t [] k order last is path =
    let done : Explains opening trace k last = subst (λ (o : List Call). Explains opening trace k o) path.1 is in
    let all = path.0 in
    record {
      once = done.once;
      issued = λ x c h. let r = done.issued x c h in (r.0, r.2);
      answered = λ i id reply h. done.answered i id reply
          (let w = get_within trace i (Answer id reply) h in omega arith) h;
      real_time = done.real_time;
      replies = λ i x c reply h m. done.replies i x c reply
          (let w = get_within trace i (Answer c.id reply) m in omega arith) h m;
    }
explained words opening trace t (Happens ∷ moves) k order last is path =
    explained words opening trace t moves (suc k) order last (explains_happen opening trace k order path.0 is) path.1
explained words opening trace t (Takes c ∷ moves) k order last is path =
    explained words opening trace t moves k (order ++ c ∷ []) last
    (explains_take words opening trace t k order c path.0 is) path.1

-- a path leads to an order that explains the trace
pub path_explains : (words : ℕ) (opening : List ℕ) (trace : List Event) (order : List Call)
    → IsTrace words trace → HasPath opening trace order → IsOrder opening trace order
path_explains words opening trace order t path = explained words opening trace t path.0 0 [] order
    (explains_none opening trace) path.1

-- the operations before place n were issued before event k, and the one there, if any, was not
record IsFront (trace : List Event) (order : List Call) (k n : ℕ) : Type 0 where
  pub before : (x : ℕ) (c : Call) → x < n → slice_get order x ≡ Some c
      → (i : ℕ) × (i < k) × TraceIssuesAt trace i c
  pub behind : (c : Call) → slice_get order n ≡ Some c → (j : ℕ) × (k ≤ j) × TraceIssuesAt trace j c

-- operations take effect, as long as they were issued
takes : (opening : List ℕ) (trace : List Event) (order : List Call) (k : ℕ) → IsOrder opening trace order
    → (fuel n : ℕ) → length order ≤ n + fuel
    → ((x : ℕ) (c : Call) → x < n → slice_get order x ≡ Some c → (i : ℕ) × (i < k) × TraceIssuesAt trace i c)
    → ((x : ℕ) (c : Call) → n ≤ x → slice_get order x ≡ Some c → IsUnanswered trace k c.id)
    → ((m : ℕ) → IsFront trace order k m → (moves : List Moment) × IsPath opening trace moves k (take m order) order)
    → (moves : List Moment) × IsPath opening trace moves k (take n order) order
takes opening trace order k o zero n all before later then = then n (record {
  before = before;
  behind = λ c h. absurd (let w = get_within order n c h in omega arith);
})
takes opening trace order k o
    (suc fuel) n all before later then = ⊎_elim {C = (moves : List Moment) × IsPath opening trace moves k
    (take n order) order}
    (λ (more : n < length order).
    let d = within_length order n more in
    let issue = o.issued n d.0 d.1 in
    ⊎_elim {C = (moves : List Moment) × IsPath opening trace moves k (take n order) order}
    (λ (early : issue.0 < k).
    let rest = takes opening trace order k o fuel (suc n) (omega arith)
    (λ x c l h. ⊎_elim {C = (i : ℕ) × (i < k) × TraceIssuesAt trace i c}
    (λ (e : x ≡ n).
    let at : slice_get order n ≡ Some c = ap (λ (y : ℕ). slice_get order y) (sym e) ∙ h in
    let same : d.0 ≡ c = let f = d.1 in cc in
    (issue.0, early, subst (λ (b : Call). TraceIssuesAt trace issue.0 b) same issue.1))
    (λ (ne : x ≢ n). before x c (omega arith) h)
    (cases_eq x n))
    (λ x c l h. later x c (omega arith) h) then in (
      Takes d.0 ∷ rest.0,
      (
        record {
          at = issue.0;
          early = early;
          issue = issue.1;
          unanswered = later n d.0 (omega arith) d.1;
          new = λ on. let r = take_get n order on.0 on.1 on.2 in let e = o.once on.0 n on.1 d.0 r.1 d.1 on.3 in
              let l = r.0 in omega arith;
        },
        subst (λ (p : List Call). IsPath opening trace rest.0 k p order) (take_push order n d.0 d.1) rest.1,
      ),
    ))
    (λ (late : k ≤ issue.0). then n (record {
      before = before;
      behind = λ c h. let same : d.0 ≡ c = let f = d.1 in cc in
          (issue.0, late, subst (λ (b : Call). TraceIssuesAt trace issue.0 b) same issue.1);
    }))
    (cases_lt issue.0 k))
    (λ (none : length order ≤ n). then n (record {
      before = before;
      behind = λ c h. absurd (let w = get_within order n c h in omega arith);
    }))
    (cases_lt n (length order))

onward : (opening : List ℕ) (trace : List Event) (order : List Call) → IsOrder opening trace order
    → (fuel k : ℕ) → k + fuel ≡ length trace → (n : ℕ) → IsFront trace order k n
    → (moves : List Moment) × IsPath opening trace moves k (take n order) order
onward opening trace order o zero k end n front =
    let all : length order ≤ n = ⊎_elim {C = length order ≤ n}
    (λ (more : n < length order).
    let d = within_length order n more in
    let late = front.behind d.0 d.1 in
    let l = late.1 in
    absurd (let w = get_within trace late.0 (Issue d.0) late.2 in omega arith))
    (λ g. g)
    (cases_lt n (length order)) in
    ([], (omega arith, take_all n order all))
onward opening trace order o (suc fuel) k end n front =
    let e = within_length trace k (omega arith) in
    let rest = takes opening trace order (suc k) o (length order) n (omega arith)
    (λ x c l h. let r = front.before x c l h in (r.0, omega arith, r.2))
    (λ x c l h i reply answer. ⊎_elim {C = suc k ≤ i}
    (λ (g : suc k ≤ i). g)
    (λ (low : i < suc k).
    let more : n < length order = let w = get_within order x c h in omega arith in
    let d = within_length order n more in
    let late = front.behind d.0 d.1 in
    let m = late.1 in
    let ne : i ≢ late.0 = λ e. let a : slice_get trace late.0 ≡ Some (Answer c.id reply) = ap
    (λ (j : ℕ). slice_get trace j) (sym e) ∙ answer in let b : slice_get trace late.0 ≡ Some
    (Issue d.0) = late.2 in cc in
    let wrong = o.real_time i late.0 x n c d.0 reply (omega arith) answer late.2 h d.1 in
    absurd (omega arith))
    (or_less (suc k) i))
    (λ m next. onward opening trace order o fuel (suc k) (omega arith) m next) in
    (Happens ∷ rest.0, (happen e.0 e.1, rest.1))
  where
    or_less : (a b : ℕ) → (a ≤ b) ⊎ (b < a)
    or_less a b = ⊎_elim (λ (l : b < a). inr l) (λ (g : a ≤ b). inl g) (cases_lt b a)

    happen : (e : Event) → slice_get trace k ≡ Some e → MomentMayHappen opening trace k (take n order)
    happen (Issue call) h = inl (call, h)
    happen (Answer id reply) h =
        let on = o.answered k id reply h in
        let x = on.0 in
        let c : Call = on.1 in
        let told : TraceAnswersAt trace k c.id reply = subst (λ (v : ℕ). TraceAnswersAt trace k v reply) (sym on.3) h in
        let within : x < n = ⊎_elim {C = x < n}
        (λ l. l)
        (λ (g : n ≤ x).
        let more : n < length order = let w = get_within order x c on.2 in omega arith in
        let d = within_length order n more in
        let early = issued_early opening trace k order o c reply told x on.2 n d.0 g d.1 in
        let late = front.behind d.0 d.1 in
        let wrong = o.real_time k late.0 x n c d.0 reply (ahead late.0 d.0 late.1 late.2 h) told late.2 on.2 d.1 in
        absurd (omega arith))
        (cases_lt x n) in
        let cut : take x (take n order) ≡ take x order = take-take x n order (omega arith) in
        inr (
          id,
          reply,
          h,
          (
            x,
            c,
            get_take n order x c within on.2,
            on.3,
            o.replies k x c reply on.2 told ∙ ap (λ (p : List Call). reply_of_one c.operation (memory_of opening p))
                (sym cut),
          ),
        )
      where
        ahead : (j : ℕ) (d : Call) → k ≤ j → TraceIssuesAt trace j d → slice_get trace k ≡ Some (Answer id reply)
            → k < j
        ahead j d l issue h =
            let ne : j ≢ k = λ e. let a : slice_get trace k ≡ Some (Issue d) = ap (λ (i : ℕ). slice_get trace i)
            (sym e) ∙ issue in cc in
            omega arith

-- an order that explains the trace has a path
pub order_has_path : (opening : List ℕ) (trace : List Event) (order : List Call) → IsOrder opening trace order
    → HasPath opening trace order
order_has_path opening trace order o = onward opening trace order o (length trace) 0 (omega arith) 0 (record {
  before = λ x c l h. absurd (omega arith);
  behind = λ c h. let r = o.issued 0 c h in (r.0, omega arith, r.1);
})
