-- What explains a trace explains each beginning of it, once cut.
use Rattle.std.proofs.Common.{◌≡◌, ◌≢◌, ⊎_elim, ℕ, zero, suc, ◌+◌, ◌<◌, ◌≤◌, List, length, Some, sym, ◌∙◌, ap, subst, arith, slice_get, take}
use Rattle.std.proofs.lemmas.Bool.{cases_eq, cases_lt}
use Rattle.std.proofs.lemmas.List.{take-take}
use Rattle.packet.specs.Memory.{reply_of_one}
use Rattle.trace_laws.specs.declared.event.Call.{Call}
use Rattle.trace_laws.specs.declared.event.Event.{Event}
use Rattle.trace_laws.specs.declared.event.Event.TheVariants.{Issue, Answer}
use Rattle.trace_laws.specs.Traces.{IsTrace, TraceIssuesAt, TraceAnswersAt}
use Rattle.trace_laws.specs.Orders.{IsOn, IsOrder, IsLinearizable, memory_of}
use Rattle.trace_laws.proofs.Lists.{get_take, take_get, within_length, get_within}

-- the operations up to place n were issued before event m, and the one there, if any, was not
pub record Cut (opening : List ℕ) (trace : List Event) (order : List Call) (m n : ℕ) : Type 0 where
  pub before : (x : ℕ) (c : Call) → x < n → slice_get order x ≡ Some c
      → (i : ℕ) × (i < m) × TraceIssuesAt trace i c
  pub behind : (x : ℕ) (c : Call) → n ≤ x → slice_get order x ≡ Some c
      → (d : Call) × (slice_get order n ≡ Some d) × (j : ℕ) × (m ≤ j) × TraceIssuesAt trace j d

-- go on by one place, as long as there are some
cut_from : (opening : List ℕ) (trace : List Event) (order : List Call) (m : ℕ) → IsOrder opening trace order
    → (fuel n : ℕ) → length order ≤ n + fuel
    → ((x : ℕ) (c : Call) → x < n → slice_get order x ≡ Some c → (i : ℕ) × (i < m) × TraceIssuesAt trace i c)
    → (p : ℕ) × Cut opening trace order m p
cut_from opening trace order m o zero n all before = (
  n,
  record {
    before = before;
    behind = λ x c l h. absurd (let w = get_within order x c h in omega arith);
  },
)
cut_from opening trace order m o (suc fuel) n all before = ⊎_elim
    (λ (more : n < length order).
    let there = within_length order n more in
    let issue = o.issued n there.0 there.1 in
    ⊎_elim
    (λ (early : issue.0 < m).
    cut_from opening trace order m o fuel (suc n) (omega arith)
    (λ x c l h. ⊎_elim
    (λ (e : x ≡ n).
    let at : slice_get order n ≡ Some c = ap (λ (y : ℕ). slice_get order y) (sym e) ∙ h in
    let same : there.0 ≡ c = let f = there.1 in cc in
    (issue.0, early, subst (λ (d : Call). TraceIssuesAt trace issue.0 d) same issue.1))
    (λ (ne : x ≢ n). before x c (omega arith) h)
    (cases_eq x n)))
    (λ (late : m ≤ issue.0). (
      n,
      record {
        before = before;
        behind = λ x c l h. (there.0, there.1, issue.0, late, issue.1);
      },
    ))
    (cases_lt issue.0 m))
    (λ (none : length order ≤ n). (
      n,
      record {
        before = before;
        behind = λ x c l h. absurd (let w = get_within order x c h in omega arith);
      },
    ))
    (cases_lt n (length order))

pub beginning : (words : ℕ) (opening : List ℕ) (trace : List Event) (m : ℕ) → IsTrace words trace
    → IsLinearizable opening trace → IsLinearizable opening (take m trace)
beginning words opening trace m t is =
    let order = is.0 in
    let o : IsOrder opening trace order = is.1 in
    let found = cut_from opening trace order m o (length order) 0 (omega arith) (λ x c l h. absurd (omega arith)) in
    let n = found.0 in
    let cut : Cut opening trace order m n = found.1 in (
      take n order,
      record {
        once = λ x y c d h k e. o.once x y c d (take_get n order x c h).1 (take_get n order y d k).1 e;
        issued = λ x c h.
            let r = take_get n order x c h in
            let i = cut.before x c r.0 r.1 in
            (i.0, get_take m trace i.0 (Issue c) i.1 i.2);
        answered = λ i id reply h.
            let a = take_get m trace i (Answer id reply) h in
            let on : IsOn order id = o.answered i id reply a.1 in
            ⊎_elim
            (λ (l : on.0 < n). (on.0, on.1, get_take n order on.0 on.1 l on.2, on.3))
            (λ (g : n ≤ on.0).
            let late = cut.behind on.0 on.1 g on.2 in
            let told : TraceAnswersAt trace i on.1.id reply = subst (λ (v : ℕ). TraceAnswersAt trace i v reply)
            (sym on.3) a.1 in
            let less : i < late.2 = omega arith in
            let wrong = o.real_time i late.2 on.0 n on.1 late.0 reply less told late.4 on.2 late.1 in
            absurd (omega arith))
            (cases_lt on.0 n);
        real_time = λ i j x y c d reply l h k p q. o.real_time i j x y c d reply l
            (take_get m trace i (Answer c.id reply) h).1 (take_get m trace j (Issue d) k).1
            (take_get n order x c p).1 (take_get n order y d q).1;
        replies = λ i x c reply h k.
            let r = take_get n order x c h in
            let e : take x (take n order) ≡ take x order = take-take x n order (omega arith) in
            o.replies i x c reply r.1 (take_get m trace i (Answer c.id reply) k).1 ∙ ap
            (λ (p : List Call). reply_of_one c.operation (memory_of opening p)) (sym e);
      },
    )
