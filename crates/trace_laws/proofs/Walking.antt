-- A configuration that keeps up with an order goes on with it, up to the operation that is answered.
use Rattle.std.proofs.Common.{◌≡◌, ◌≢◌, inl, inr, ⊎_elim, ℕ, zero, suc, ◌+◌, ◌<◌, ◌≤◌, List, length, Option, Some, None, refl, sym, ◌∙◌, ap, subst}
use Rattle.std.proofs.Common.{arith, slice_get, take, get_or}
use Rattle.std.proofs.lemmas.Bool.{cases_eq, cases_lt}
use Rattle.std.specs.Option.{IfSome}
use Rattle.packet.specs.declared.kinds.Reply.{Reply}
use Rattle.packet.specs.Memory.{reply_to}
use Rattle.trace_laws.specs.declared.event.Call.{Call}
use Rattle.trace_laws.specs.declared.event.Event.{Event}
use Rattle.trace_laws.specs.declared.event.Event.TheVariants.{Answer}
use Rattle.trace_laws.specs.declared.opened.Open.{Open}
use Rattle.trace_laws.specs.declared.opened.Config.{Config}
use Rattle.trace_laws.specs.Traces.{IsTrace, TraceIssuesAt, TraceAnswersAt, IsUnanswered}
use Rattle.trace_laws.specs.Orders.{IsOrder, memory_of}
use Rattle.trace_laws.specs.Configs.{IsOpen, IsLeft, HasTakenEffect, AgreesWithValue, IsIn, IsAsGood, HasAsGood, IsExpanded, effect}
use Rattle.trace_laws.specs.Searches.{IsAt, IsPending, IsIndexTable, Fits, KeepsUp, WasIdle, IsCut}
use Rattle.trace_laws.specs.Unanswered.{HasNoUnansweredLoad}
use Rattle.trace_laws.proofs.Lists.{get_take, take_get, take_push, within_length, get_within}
use Rattle.trace_laws.proofs.Bits.{bit_cases, not_both}
use Rattle.std.specs.Int.{bit_at}
use Rattle.trace_laws.proofs.Issues.{issued_early}
use Rattle.trace_laws.proofs.Table.{at_within}
use Rattle.trace_laws.proofs.Dominance.{good_more, good_effect, good_skip, idle_there}
use Rattle.trace_laws.proofs.Fits.{fits_effect, fits_idle, fits_other}

-- what was idle stays so
pub idle_later : (trace : List Event) (k : ℕ) (c : Call) → WasIdle trace k c → WasIdle trace (suc k) c
idle_later trace k c idle = (idle.0, idle.1, (let l = idle.2 in omega arith), idle.3, idle.4)

-- the cut goes on by one place
cut_more : (trace : List Event) (k w : ℕ) (order : List Call) (n : ℕ) (d : Call) → slice_get order n ≡ Some d
    → (i : ℕ) → i < k → TraceIssuesAt trace i d
    → IsCut trace k w order n → IsCut trace k w order (suc n)
cut_more trace k w order n d at i early issue cut = record {
  before = λ x c l h here. ⊎_elim
      (λ (e : x ≡ n).
      let there : slice_get order n ≡ Some c = ap (λ (y : ℕ). slice_get order y) (sym e) ∙ h in
      let same : d ≡ c = cc in
      (i, early, subst (λ (f : Call). TraceIssuesAt trace i f) same issue))
      (λ (ne : x ≢ n). cut.before x c (omega arith) h here)
      (cases_eq x n);
  behind = λ x c l h here. cut.behind x c (omega arith) h here;
}

-- a configuration among these keeps up with the order to the next place
abbrev GoesOnTo : List ℕ → List Event → ℕ → List (Option Open) → ℕ → List Call → List Config → ℕ → Type 0
GoesOnTo opening trace k table w order configs n =
    (e : Config) × IsIn configs e × KeepsUp opening table w (take n order) e × IsCut trace k w order n

-- an operation that is answered already, and idle, changes nothing
step_idle : (opening : List ℕ) (trace : List Event) (k : ℕ) (table : List (Option Open)) (order : List Call)
    → IsOrder opening trace order → (w : ℕ) → IsIndexTable trace k w table → w < length opening → (n : ℕ) (c : Config)
    → KeepsUp opening table w (take n order) c
    → (d : Call) → slice_get order n ≡ Some d → d.operation.address ≡ w → WasIdle trace k d
    → KeepsUp opening table w (take (suc n) order) c
step_idle opening trace k table order o w is inside n c up d at here idle =
    let word : ℕ = get_or (memory_of opening (take n order)) w 0 in
    let told = o.replies idle.0 n d idle.1 at idle.3 in
    let replied : reply_to d.operation.op word ≡ idle.1 =
    sym (told ∙ ap (λ (v : ℕ). reply_to d.operation.op (get_or (memory_of opening (take n order)) v 0)) here) in (
      up.0,
      subst (λ (q : List Call). Fits opening table w q up.0) (sym (take_push order n d at))
          (fits_idle opening trace k table w (take n order) up.0 d is inside here idle.0 idle.1 idle.2 idle.3
          (idle.4 word replied) up.1),
      up.2,
    )

-- the reply that the order gives is the promise
step_agrees : (opening : List ℕ) (trace : List Event) (k : ℕ) (table : List (Option Open)) (order : List Call)
    → IsOrder opening trace order → (w : ℕ) → (n : ℕ) (d : Config) → Fits opening table w (take n order) d
    → (p : Open) → IsPending trace k p → slice_get order n ≡ Some p.call → p.call.operation.address ≡ w
    → AgreesWithValue p d.word
step_agrees opening trace k table order o w n d fits p fact at here = agree p.promise (λ reply h.
    let answer = fact.honest reply h in
    let told = o.replies answer.0 n p.call reply at answer.1 in
    sym (told ∙ (ap (λ (v : ℕ). reply_to p.call.operation.op (get_or (memory_of opening (take n order)) v 0)) here
    ∙ ap (λ (v : ℕ). reply_to p.call.operation.op v) (sym fits.word))))
  where
    agree : {P : Reply → Type 0} (promise : Option Reply) → ((reply : Reply) → promise ≡ Some reply → P reply)
        → IfSome promise P
    agree None h = tt
    agree (Some reply) h = h reply refl

-- an open operation takes effect, unless it is idle and has
step_open : (opening : List ℕ) (trace : List Event) (k : ℕ) (table : List (Option Open)) (order : List Call)
    → IsOrder opening trace order → (w : ℕ) → IsIndexTable trace k w table → w < length opening
    → (configs : List Config) (n : ℕ) (c : Config) → IsExpanded table w configs c → IsIn configs c
    → KeepsUp opening table w (take n order) c
    → (u : ℕ) (p : Open) → IsAt table u p → slice_get order n ≡ Some p.call
    → (e : Config) × IsIn configs e × KeepsUp opening table w (take (suc n) order) e
step_open opening trace k table order o w is inside configs n c expanded in' up u p there at =
    let d : Config = up.0 in
    let fits : Fits opening table w (take n order) d = up.1 in
    let good : IsAsGood table w c d = up.2 in
    let here : p.call.operation.address ≡ w = is.here u p there in
    let pending : IsOpen table w u p = record { there = there; here = here } in
    let low : u < 128 = at_within trace k w table u p is there in
    let left : IsLeft d u = ⊎_elim
    (λ (l : IsLeft d u). l)
    (λ (b : HasTakenEffect d u).
    let on = fits.taken u p pending b in
    let stands = take_get n order on.0 on.1 on.2 in
    let twice = o.once on.0 n on.1 p.call stands.1 at on.3 in
    let far = stands.0 in
    absurd (omega arith))
    (bit_cases d.taken u) in
    let agrees : AgreesWithValue p d.word = step_agrees opening trace k table order o w n d fits p (is.pending u p there) at here in
    let also : AgreesWithValue p c.word = subst (λ (v : ℕ). AgreesWithValue p v) (sym good.same) agrees in
    let next : Fits opening table w (take (suc n) order) (effect d u p) =
    subst (λ (q : List Call). Fits opening table w q (effect d u p)) (sym (take_push order n p.call at))
    (fits_effect opening trace k table w (take n order) d u p is inside
    (record { pending = pending; left = left; agrees = agrees }) fits) in
    ⊎_elim {C = (e : Config) × IsIn configs e × KeepsUp opening table w (take (suc n) order) e}
    (λ (free : IsLeft c u).
    let e : HasAsGood table w configs (effect c u p) =
    expanded u p (record { pending = pending; left = free; agrees = also }) in (
      e.0,
      e.1,
      (
        effect d u p,
        next,
        good_more table w e.0 (effect c u p) (effect d u p) e.2 (good_effect table w c d u p low good),
      ),
    ))
    (λ (taken : HasTakenEffect c u). (
      c,
      in',
      (effect d u p, next, good_skip table w c d u p low pending left taken agrees good),
    ))
    (bit_cases c.taken u)

-- one more operation of the order: it takes effect, if it is on the word
step : (opening : List ℕ) (trace : List Event) (k : ℕ) (table : List (Option Open))
    → IsTrace (length opening) trace
    → (order : List Call) → IsOrder opening trace order → HasNoUnansweredLoad trace order
    → (w : ℕ) → IsIndexTable trace k w table → w < length opening
    → (configs : List Config)
    → (n : ℕ) (c : Config) → IsExpanded table w configs c → IsIn configs c
    → KeepsUp opening table w (take n order) c → IsCut trace k w order n
    → (d : Call) → slice_get order n ≡ Some d → (i : ℕ) → i < k → TraceIssuesAt trace i d
    → GoesOnTo opening trace k table w order configs (suc n)
step opening trace k table t order o heard w is inside configs n c expanded in' up cut d at i early issue =
    let next : IsCut trace k w order (suc n) = cut_more trace k w order n d at i early issue cut in
    ⊎_elim {C = GoesOnTo opening trace k table w order configs (suc n)}
    (λ (here : d.operation.address ≡ w).
    ⊎_elim {C = GoesOnTo opening trace k table w order configs (suc n)}
    (λ (r : (j : ℕ) × (reply : Reply) × (j < k) × TraceAnswersAt trace j d.id reply).
    ⊎_elim {C = GoesOnTo opening trace k table w order configs (suc n)}
    (λ (late : IsUnanswered trace k d.id). absurd (let l = late r.0 r.1 r.3 in let soon = r.2 in omega arith))
    (λ (idle : WasIdle trace k d).
    (c, in', step_idle opening trace k table order o w is inside n c up d at here idle, next))
    (cut.behind n d (omega arith) at here))
    (λ (r : (u : ℕ) × (p : Open) × IsAt table u p × (p.call ≡ d)).
    let more = step_open opening trace k table order o w is inside configs n c expanded in' up r.0 r.1 r.2
    (at ∙ ap (λ (f : Call). Some f) (sym r.3)) in
    (more.0, more.1, more.2, next))
    (is.known i d early issue here (heard n d at)))
    (λ (away : d.operation.address ≢ w). (
      c,
      in',
      (
        up.0,
        subst (λ (q : List Call). Fits opening table w q up.0) (sym (take_push order n d at))
            (fits_other (length opening) opening trace k table w (take n order) up.0 d i t is issue
            (λ e. away (sym e)) up.1),
        up.2,
      ),
      next,
    ))
    (cases_eq d.operation.address w)

-- what is answered has a promise, and takes effect in what is as good
answered_left : (trace : List Event) (k : ℕ) (table : List (Option Open)) (w : ℕ) (c d : Config) (s : ℕ) (a : Open)
    (reply : Reply) → TraceAnswersAt trace k a.call.id reply → IsIndexTable trace k w table → IsAt table s a
    → IsAsGood table w c d → IsLeft c s → IsLeft d s
answered_left trace k table w c d s a reply now is there good left = ⊎_elim
    (λ (l : IsLeft d s). l)
    (λ (b : HasTakenEffect d s). ⊎_elim
    (λ (t : HasTakenEffect c s). absurd (not_both (bit_at c.taken s) left t))
    (λ (r : (o : Open) × IsOpen table w s o × (o.promise ≡ None)). absurd
    (let here : slice_get table s ≡ Some (Some r.0) = r.1.there in
    let same : a ≡ r.0 = cc in
    let none : a.promise ≡ None = ap (λ (o : Open). o.promise) same ∙ r.2 in
    let some : a.promise ≡ Some reply = (is.pending s a there).kept k reply now in
    cc))
    (good.taken s (at_within trace k w table s a is there) b))
    (bit_cases d.taken s)

-- From a cut, operations of the order take effect up to the one that is answered, at place x, in slot s.
pub walk : (opening : List ℕ) (trace : List Event) (k : ℕ) (table : List (Option Open))
    → IsTrace (length opening) trace
    → (order : List Call) → IsOrder opening trace order → HasNoUnansweredLoad trace order
    → (s : ℕ) (a : Open) (reply : Reply)
    → IsIndexTable trace k a.call.operation.address table
    → TraceAnswersAt trace k a.call.id reply → IsAt table s a
    → a.call.operation.address < length opening
    → (x : ℕ) → slice_get order x ≡ Some a.call → (configs : List Config)
    → ((c : Config) → IsIn configs c → IsLeft c s → IsExpanded table a.call.operation.address configs c)
    → (fuel n : ℕ) (c : Config) → x < n + fuel → IsIn configs c
    → KeepsUp opening table a.call.operation.address (take n order) c
    → IsCut trace k a.call.operation.address order n
    → (m : ℕ) × (d : Config) × IsIn configs d × HasTakenEffect d s × KeepsUp opening table a.call.operation.address
    (take m order) d × IsCut trace k a.call.operation.address order m
walk opening trace k table t order o heard s a reply is now there inside x at configs closed zero n c enough in' up cut = ⊎_elim
    (λ (left : IsLeft c s). absurd
    (up.1.left s a (record { there = there; here = refl })
    (answered_left trace k table a.call.operation.address c up.0 s a reply now is there up.2 left)
    (x, a.call, get_take n order x a.call (omega arith) at, refl)))
    (λ (taken : HasTakenEffect c s). (n, c, in', taken, up, cut))
    (bit_cases c.taken s)
walk opening trace k table t order o heard s a reply is now there inside x at configs closed
    (suc fuel) n c enough in' up cut = ⊎_elim
    (λ (left : IsLeft c s).
    let beyond : n ≤ x = ⊎_elim
    (λ (l : x < n). absurd
    (up.1.left s a (record { there = there; here = refl })
    (answered_left trace k table a.call.operation.address c up.0 s a reply now is there up.2 left)
    (x, a.call, get_take n order x a.call l at, refl)))
    (λ g. g)
    (cases_lt x n) in
    let l : n < length order = let m = get_within order x a.call at in omega arith in
    let d = within_length order n l in
    let issue = issued_early opening trace k order o a.call reply now x at n d.0 beyond d.1 in
    let more = step opening trace k table t order o heard a.call.operation.address is inside configs n c
    (closed c in' left) in' up cut d.0 d.1 issue.0 issue.1 issue.2 in
    walk opening trace k table t order o heard s a reply is now there inside x at configs closed fuel (suc n) more.0
    (omega arith) more.1 more.2 more.3)
    (λ (taken : HasTakenEffect c s). (n, c, in', taken, up, cut))
    (bit_cases c.taken s)

-- the answered operation stands before the cut, or is idle
pub cut_answered : (opening : List ℕ) (trace : List Event) (k : ℕ) (table : List (Option Open)) (order : List Call)
    → IsOrder opening trace order → (s : ℕ) (a : Open) (reply : Reply)
    → IsIndexTable trace k a.call.operation.address table
    → TraceAnswersAt trace k a.call.id reply → IsAt table s a
    → (x : ℕ) → slice_get order x ≡ Some a.call → (m : ℕ) (c : Config) → HasTakenEffect c s
    → KeepsUp opening table a.call.operation.address (take m order) c
    → IsCut trace k a.call.operation.address order m
    → IsCut trace (suc k) a.call.operation.address order m
cut_answered opening trace k table order o s a reply is now there x at m c taken up cut = record {
  before = λ y d less h here. let r = cut.before y d less h here in (r.0, omega arith, r.2);
  behind = λ y d more h here. ⊎_elim
      (λ (still : IsUnanswered trace k d.id). ⊎_elim
      (λ (e : y ≡ x).
      let there : slice_get order x ≡ Some d = ap (λ (z : ℕ). slice_get order z) (sym e) ∙ h in
      let same : a.call ≡ d = cc in
      inr (subst (λ (f : Call). WasIdle trace (suc k) f) same (idle (omega arith))))
      (λ (ne : y ≢ x). inl (λ i told answer. ⊎_elim
      (λ (e : i ≡ k).
      let there : slice_get trace i ≡ Some (Answer a.call.id reply) = ap (λ (j : ℕ). slice_get trace j) e ∙ now in
      let id : a.call.id ≡ d.id = cc in
      absurd (ne (sym (o.once x y a.call d at h id))))
      (λ (other : i ≢ k). let r = still i told answer in omega arith)
      (cases_eq i k)))
      (cases_eq y x))
      (λ (was : WasIdle trace k d). inr (idle_later trace k d was))
      (cut.behind y d more h here);
}
  where
    pending : IsOpen table a.call.operation.address s a
    pending = record { there = there; here = refl }

    -- its slot has no effect in the configuration that fits
    idle : m ≤ x → WasIdle trace (suc k) a.call
    idle far =
        let low : s < 128 = at_within trace k a.call.operation.address table s a is there in
        let left : IsLeft up.0 s = ⊎_elim
        (λ (l : IsLeft up.0 s). l)
        (λ (b : HasTakenEffect up.0 s).
        let on = up.1.taken s a pending b in
        let stands = take_get m order on.0 on.1 on.2 in
        let same = o.once on.0 x on.1 a.call stands.1 at on.3 in
        let near = stands.0 in
        absurd (omega arith))
        (bit_cases up.0.taken s) in
        let is_idle = idle_there table a.call.operation.address c up.0 s a low pending left taken up.2 in
        let some = (is.pending s a there).kept k reply now in (
          k,
          reply,
          omega arith,
          now,
          λ word told. is_idle word (subst (λ (q : Option Reply). IfSome q (λ r. reply_to a.call.operation.op word ≡ r)) (sym some) told),
        )
