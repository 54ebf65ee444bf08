-- Two traces of a store and a load of one word, of which one is linearizable; and that wrong definitions say otherwise.
use Rattle.std.proofs.Common.{◌≡◌, ◌⊎◌, inl, inr, ⊎_elim, ℕ, zero, suc, ◌<◌, List, [], ◌∷◌, Some, refl, sym, ◌∙◌, ap, subst, arith, slice_get, take}
use Rattle.packet.specs.declared.kinds.Op.TheVariants.{Load, Store}
use Rattle.packet.specs.declared.kinds.Reply.{Reply}
use Rattle.packet.specs.declared.kinds.Reply.TheVariants.{Old, Ok as Stored}
use Rattle.packet.specs.Memory.{reply_of_one}
use Rattle.trace_laws.specs.declared.event.Call.{Call}
use Rattle.trace_laws.specs.declared.event.Event.{Event}
use Rattle.trace_laws.specs.declared.event.Event.TheVariants.{Issue, Answer}
use Rattle.trace_laws.specs.Traces.{TraceIssuesAt, TraceAnswersAt}
use Rattle.trace_laws.specs.Orders.{IsOn, IsOrder, IsLinearizable, memory_of}

abbrev store : Call
store = record { id = 1; operation = record { address = 0; op = Store 17 } }

abbrev load : Call
load = record { id = 2; operation = record { address = 0; op = Load } }

-- a load that is issued while the store is pending, and gets the old word
abbrev overlapping : List Event
overlapping = Issue store ∷ Issue load ∷ Answer 1 Stored ∷ Answer 2 (Old 0) ∷ []

-- one that is issued after the store was answered
abbrev stale : List Event
stale = Issue store ∷ Answer 1 Stored ∷ Issue load ∷ Answer 2 (Old 0) ∷ []

-- the load first
abbrev load_first : List Call
load_first = load ∷ store ∷ []

-- wrong: operations take effect in the order of their issues
abbrev IsByIssue : List Event → List Call → Type 0
IsByIssue trace order = (i j x y : ℕ) (c d : Call) → i < j → TraceIssuesAt trace i c → TraceIssuesAt trace j d
    → slice_get order x ≡ Some c → slice_get order y ≡ Some d → x < y

-- wrong: they take effect at any time
record IsAtAnyTime (opening : List ℕ) (trace : List Event) (order : List Call) : Type 0 where
  pub once : (x y : ℕ) (c d : Call) → slice_get order x ≡ Some c → slice_get order y ≡ Some d → c.id ≡ d.id
      → x ≡ y
  pub issued : (x : ℕ) (c : Call) → slice_get order x ≡ Some c → (i : ℕ) × TraceIssuesAt trace i c
  pub answered : (i id : ℕ) (reply : Reply) → TraceAnswersAt trace i id reply → IsOn order id
  pub replies : (i x : ℕ) (c : Call) (reply : Reply) → slice_get order x ≡ Some c
      → TraceAnswersAt trace i c.id reply
      → reply ≡ reply_of_one c.operation (memory_of opening (take x order))

-- the store is answered at event a, and the load issued at event b
record AreTheTwo (trace : List Event) (a b : ℕ) : Type 0 where
  pub first : TraceIssuesAt trace 0 store
  pub second : TraceIssuesAt trace b load
  pub stored : TraceAnswersAt trace a 1 Stored
  pub loaded : TraceAnswersAt trace 3 2 (Old 0)
  pub issues : (i : ℕ) (c : Call) → TraceIssuesAt trace i c → ((i ≡ 0) × (c ≡ store)) ⊎ ((i ≡ b) × (c ≡ load))
  pub answers : (i id : ℕ) (reply : Reply) → TraceAnswersAt trace i id reply
      → ((i ≡ a) × (id ≡ 1) × (reply ≡ Stored)) ⊎ ((i ≡ 3) × (id ≡ 2) × (reply ≡ Old 0))

overlapping_issues : (i : ℕ) (c : Call) → TraceIssuesAt overlapping i c
    → ((i ≡ 0) × (c ≡ store)) ⊎ ((i ≡ 1) × (c ≡ load))
overlapping_issues zero c h = inl (refl, cc)
overlapping_issues (suc zero) c h = inr (refl, cc)
overlapping_issues (suc (suc zero)) c h = absurd (cc)
overlapping_issues (suc (suc (suc zero))) c h = absurd (cc)
overlapping_issues (suc (suc (suc (suc i)))) c h = absurd (cc)

overlapping_answers : (i id : ℕ) (reply : Reply) → TraceAnswersAt overlapping i id reply
    → ((i ≡ 2) × (id ≡ 1) × (reply ≡ Stored)) ⊎ ((i ≡ 3) × (id ≡ 2) × (reply ≡ Old 0))
overlapping_answers zero id reply h = absurd (cc)
overlapping_answers (suc zero) id reply h = absurd (cc)
overlapping_answers (suc (suc zero)) id reply h = inl (refl, cc, cc)
overlapping_answers (suc (suc (suc zero))) id reply h = inr (refl, cc, cc)
overlapping_answers (suc (suc (suc (suc i)))) id reply h = absurd (cc)

stale_issues : (i : ℕ) (c : Call) → TraceIssuesAt stale i c → ((i ≡ 0) × (c ≡ store)) ⊎ ((i ≡ 2) × (c ≡ load))
stale_issues zero c h = inl (refl, cc)
stale_issues (suc zero) c h = absurd (cc)
stale_issues (suc (suc zero)) c h = inr (refl, cc)
stale_issues (suc (suc (suc zero))) c h = absurd (cc)
stale_issues (suc (suc (suc (suc i)))) c h = absurd (cc)

stale_answers : (i id : ℕ) (reply : Reply) → TraceAnswersAt stale i id reply
    → ((i ≡ 1) × (id ≡ 1) × (reply ≡ Stored)) ⊎ ((i ≡ 3) × (id ≡ 2) × (reply ≡ Old 0))
stale_answers zero id reply h = absurd (cc)
stale_answers (suc zero) id reply h = inl (refl, cc, cc)
stale_answers (suc (suc zero)) id reply h = absurd (cc)
stale_answers (suc (suc (suc zero))) id reply h = inr (refl, cc, cc)
stale_answers (suc (suc (suc (suc i)))) id reply h = absurd (cc)

of_overlapping : AreTheTwo overlapping 2 1
of_overlapping = record {
  first = refl;
  second = refl;
  stored = refl;
  loaded = refl;
  issues = overlapping_issues;
  answers = overlapping_answers;
}

of_stale : AreTheTwo stale 1 2
of_stale = record {
  first = refl;
  second = refl;
  stored = refl;
  loaded = refl;
  issues = stale_issues;
  answers = stale_answers;
}

places : (x : ℕ) (c : Call) → slice_get load_first x ≡ Some c → ((x ≡ 0) × (c ≡ load)) ⊎ ((x ≡ 1) × (c ≡ store))
places zero c h = inl (refl, cc)
places (suc zero) c h = inr (refl, cc)
places (suc (suc x)) c h = absurd (cc)

-- the number of an operation
number : (c d : Call) → c ≡ d → c.id ≡ d.id
number c d e = ap (λ (f : Call). f.id) e

-- the reply at a place
told : (x : ℕ) (c d : Call) (reply : Reply) → c ≡ d → (y : ℕ) → x ≡ y
    → reply ≡ reply_of_one d.operation (memory_of (0 ∷ []) (take y load_first))
    → reply ≡ reply_of_one c.operation (memory_of (0 ∷ []) (take x load_first))
told x c d reply e y f h = h
    ∙ (ap (λ (b : Call). reply_of_one b.operation (memory_of (0 ∷ []) (take y load_first))) (sym e)
    ∙ ap (λ (n : ℕ). reply_of_one c.operation (memory_of (0 ∷ []) (take n load_first))) (sym f))

-- with the load first all but the times is right
load_may_be_first : (trace : List Event) (a b : ℕ) → AreTheTwo trace a b → IsAtAnyTime (0 ∷ []) trace load_first
load_may_be_first trace a b two = record {
  once = λ x y c d h k e. ⊎_elim {C = x ≡ y}
      (λ (p : (x ≡ 0) × (c ≡ load)). ⊎_elim {C = x ≡ y}
      (λ (q : (y ≡ 0) × (d ≡ load)). p.0 ∙ sym q.0)
      (λ (q : (y ≡ 1) × (d ≡ store)). absurd (let m = number c load p.1 in let n = number d store q.1 in omega arith))
      (places y d k))
      (λ (p : (x ≡ 1) × (c ≡ store)). ⊎_elim {C = x ≡ y}
      (λ (q : (y ≡ 0) × (d ≡ load)). absurd (let m = number c store p.1 in let n = number d load q.1 in omega arith))
      (λ (q : (y ≡ 1) × (d ≡ store)). p.0 ∙ sym q.0)
      (places y d k))
      (places x c h);
  issued = λ x c h. ⊎_elim {C = (i : ℕ) × TraceIssuesAt trace i c}
      (λ (p : (x ≡ 0) × (c ≡ load)). (b, subst (λ (d : Call). TraceIssuesAt trace b d) (sym p.1) two.second))
      (λ (p : (x ≡ 1) × (c ≡ store)). (0, subst (λ (d : Call). TraceIssuesAt trace 0 d) (sym p.1) two.first))
      (places x c h);
  answered = λ i id reply h. ⊎_elim {C = IsOn load_first id}
      (λ (p : (i ≡ a) × (id ≡ 1) × (reply ≡ Stored)). (1, store, refl, sym p.1))
      (λ (p : (i ≡ 3) × (id ≡ 2) × (reply ≡ Old 0)). (0, load, refl, sym p.1))
      (two.answers i id reply h);
  replies = λ i x c reply h k. ⊎_elim {C = reply ≡ reply_of_one c.operation (memory_of (0 ∷ []) (take x load_first))}
      (λ (p : (x ≡ 0) × (c ≡ load)). ⊎_elim {C = reply ≡ reply_of_one c.operation
      (memory_of (0 ∷ []) (take x load_first))}
      (λ (q : (i ≡ a) × (c.id ≡ 1) × (reply ≡ Stored)). absurd
      (let n = number c load p.1 in let m = q.1 in omega arith))
      (λ (q : (i ≡ 3) × (c.id ≡ 2) × (reply ≡ Old 0)). told x c load reply p.1 0 p.0 q.2)
      (two.answers i c.id reply k))
      (λ (p : (x ≡ 1) × (c ≡ store)). ⊎_elim {C = reply ≡ reply_of_one c.operation
      (memory_of (0 ∷ []) (take x load_first))}
      (λ (q : (i ≡ a) × (c.id ≡ 1) × (reply ≡ Stored)). told x c store reply p.1 1 p.0 q.2)
      (λ (q : (i ≡ 3) × (c.id ≡ 2) × (reply ≡ Old 0)). absurd
      (let n = number c store p.1 in let m = q.1 in omega arith))
      (two.answers i c.id reply k))
      (places x c h);
}

one_word : (v w : ℕ) → Old v ≡ Old w → v ≡ w
one_word v w e = cc

-- with the store first the load finds 17
load_is_not_last : (trace : List Event) (a b : ℕ) → AreTheTwo trace a b → (order : List Call)
    → IsAtAnyTime (0 ∷ []) trace order
    → (x y : ℕ) → slice_get order x ≡ Some store → slice_get order y ≡ Some load → x < y → ⊥
load_is_not_last trace a b two [] o x y h k l = cc
load_is_not_last trace a b two (c ∷ order) o x zero h k l = omega arith
load_is_not_last trace a b two (c ∷ order) o x (suc y) h k l =
    let issue = o.issued 0 c refl in
    ⊎_elim {C = ⊥}
    (λ (p : (issue.0 ≡ 0) × (c ≡ store)). behind p.1 order y k o)
    (λ (p : (issue.0 ≡ b) × (c ≡ load)). let e = o.once 0 (suc y) c load refl k (number c load p.1) in omega arith)
    (two.issues issue.0 c issue.1)
  where
    behind : c ≡ store → (rest : List Call) (z : ℕ) → slice_get rest z ≡ Some load
        → IsAtAnyTime (0 ∷ []) trace (c ∷ rest) → ⊥
    behind e [] z m p = cc
    behind e (d ∷ rest) zero m p =
        let found : Old 0 ≡ reply_of_one load.operation (memory_of (0 ∷ []) (c ∷ [])) = p.replies 3 1 load
        (Old 0) m two.loaded in
        let wrong : Old 0 ≡ Old 17 = found ∙ ap
        (λ (f : Call). reply_of_one load.operation (memory_of (0 ∷ []) (f ∷ []))) e in
        let same = one_word 0 17 wrong in
        omega arith
    behind e (d ∷ rest) (suc z) m p =
        let issue = p.issued 1 d refl in
        ⊎_elim {C = ⊥}
        (λ (q : (issue.0 ≡ 0) × (d ≡ store)). let f = p.once 0 1 c d refl refl
        (number c d (e ∙ sym q.1)) in omega arith)
        (λ (q : (issue.0 ≡ b) × (d ≡ load)). let f = p.once 1 (suc (suc z)) d load refl m
        (number d load q.1) in omega arith)
        (two.issues issue.0 d issue.1)

without_times : (opening : List ℕ) (trace : List Event) (order : List Call) → IsOrder opening trace order
    → IsAtAnyTime opening trace order
without_times opening trace order o = record {
  once = o.once;
  issued = o.issued;
  answered = o.answered;
  replies = o.replies;
}

-- where the store stands in an order
store_is_there : (trace : List Event) (a b : ℕ) → AreTheTwo trace a b → (order : List Call)
    → IsAtAnyTime (0 ∷ []) trace order
    → (x : ℕ) × (slice_get order x ≡ Some store)
store_is_there trace a b two order o =
    let on : IsOn order 1 = o.answered a 1 Stored two.stored in
    let issue = o.issued on.0 on.1 on.2 in
    ⊎_elim {C = (x : ℕ) × (slice_get order x ≡ Some store)}
    (λ (p : (issue.0 ≡ 0) × (on.1 ≡ store)). (on.0, on.2 ∙ ap (λ (c : Call). Some c) p.1))
    (λ (p : (issue.0 ≡ b) × (on.1 ≡ load)). absurd (let m = number on.1 load p.1 in let n = on.3 in omega arith))
    (two.issues issue.0 on.1 issue.1)

load_is_there : (trace : List Event) (a b : ℕ) → AreTheTwo trace a b → (order : List Call)
    → IsAtAnyTime (0 ∷ []) trace order
    → (x : ℕ) × (slice_get order x ≡ Some load)
load_is_there trace a b two order o =
    let on : IsOn order 2 = o.answered 3 2 (Old 0) two.loaded in
    let issue = o.issued on.0 on.1 on.2 in
    ⊎_elim {C = (x : ℕ) × (slice_get order x ≡ Some load)}
    (λ (p : (issue.0 ≡ 0) × (on.1 ≡ store)). absurd (let m = number on.1 store p.1 in let n = on.3 in omega arith))
    (λ (p : (issue.0 ≡ b) × (on.1 ≡ load)). (on.0, on.2 ∙ ap (λ (c : Call). Some c) p.1))
    (two.issues issue.0 on.1 issue.1)

-- the load may get the old word while the store is pending
overlapping_is_linearizable : IsLinearizable (0 ∷ []) overlapping
overlapping_is_linearizable =
    let o = load_may_be_first overlapping 2 1 of_overlapping in (
      load_first,
      record {
        once = o.once;
        issued = o.issued;
        answered = o.answered;
        real_time = λ i j x y c d reply l h k m n. absurd (late i j c d reply l h k);
        replies = o.replies;
      },
    )
  where
    late : (i j : ℕ) (c d : Call) (reply : Reply) → i < j → TraceAnswersAt overlapping i c.id reply
        → TraceIssuesAt overlapping j d → ⊥
    late i j c d reply l h k =
        let after : 1 < i = ⊎_elim {C = 1 < i}
        (λ (p : (i ≡ 2) × (c.id ≡ 1) × (reply ≡ Stored)). let e = p.0 in omega arith)
        (λ (p : (i ≡ 3) × (c.id ≡ 2) × (reply ≡ Old 0)). let e = p.0 in omega arith)
        (overlapping_answers i c.id reply h) in
        let before : j < 2 = ⊎_elim {C = j < 2}
        (λ (p : (j ≡ 0) × (d ≡ store)). let e = p.0 in omega arith)
        (λ (p : (j ≡ 1) × (d ≡ load)). let e = p.0 in omega arith)
        (overlapping_issues j d k) in
        omega arith

-- by the order of issues it couldn't
not_by_issue : (order : List Call) → IsOrder (0 ∷ []) overlapping order → IsByIssue overlapping order → ⊥
not_by_issue order o by =
    let p = without_times (0 ∷ []) overlapping order o in
    let x = store_is_there overlapping 2 1 of_overlapping order p in
    let y = load_is_there overlapping 2 1 of_overlapping order p in
    load_is_not_last overlapping 2 1 of_overlapping order p x.0 y.0 x.1 y.1
    (by 0 1 x.0 y.0 store load (omega arith) refl refl x.1 y.1)

-- once the store is answered it may not
stale_is_not_linearizable : IsLinearizable (0 ∷ []) stale → ⊥
stale_is_not_linearizable is =
    let order = is.0 in
    let p = without_times (0 ∷ []) stale order is.1 in
    let x = store_is_there stale 1 2 of_stale order p in
    let y = load_is_there stale 1 2 of_stale order p in
    load_is_not_last stale 1 2 of_stale order p x.0 y.0 x.1 y.1
    (is.1.real_time 1 2 x.0 y.0 store load Stored (omega arith) refl refl x.1 y.1)

-- were times of no account it might
stale_at_any_time : IsAtAnyTime (0 ∷ []) stale load_first
stale_at_any_time = load_may_be_first stale 1 2 of_stale
