-- A configuration that keeps up with some order goes on, up to the operation that is answered.
use Rattle.std.proofs.Common.{◌≡◌, ◌≢◌, inl, ⊎_elim, ℕ, zero, suc, ◌+◌, ◌<◌, ◌≤◌, List, length, Option, Some, None, refl, sym, ◌∙◌, ap, subst}
use Rattle.std.proofs.Common.{arith, slice_get, take, get_or}
use Rattle.std.proofs.lemmas.Bool.{cases_eq, cases_lt}
use Rattle.std.specs.Int.{bit_at}
use Rattle.packet.specs.declared.kinds.Reply.{Reply}
use Rattle.packet.specs.Memory.{reply_to}
use Rattle.trace_laws.specs.declared.event.Call.{Call}
use Rattle.trace_laws.specs.declared.event.Event.{Event}
use Rattle.trace_laws.specs.declared.opened.Open.{Open}
use Rattle.trace_laws.specs.declared.opened.Config.{Config}
use Rattle.trace_laws.specs.Traces.{IsTrace, TraceIssuesAt, TraceAnswersAt, IsUnanswered}
use Rattle.trace_laws.specs.Orders.{IsOrder, memory_of}
use Rattle.trace_laws.specs.Configs.{IsOpen, IsLeft, HasTakenEffect, IsIn, IsAsGood, AgreesWithValue, effect}
use Rattle.trace_laws.specs.Searches.{IsAt, IsIndexTable, Fits, KeepsUp, WasIdle, IsCut}
use Rattle.trace_laws.specs.Unanswered.{HasNoUnansweredLoad}
use Rattle.trace_laws.proofs.Lists.{get_take, take_get, take_push, within_length, get_within}
use Rattle.trace_laws.proofs.Bits.{bit_cases, not_both}
use Rattle.trace_laws.proofs.Issues.{issued_early}
use Rattle.trace_laws.proofs.Table.{at_within}
use Rattle.trace_laws.proofs.Dominance.{good_skip}
use Rattle.trace_laws.proofs.Fits.{fits_effect, fits_idle, fits_other}
use Rattle.trace_judge.specs.Elders.{IsExpandedInTurn}
use Rattle.trace_judge.proofs.Elders.{GoesOnInTurn, cut_on, place_agrees, step_elder}

-- the order stays
same_order : (opening : List ℕ) (trace : List Event) (k : ℕ) (table : List (Option Open)) (w : ℕ) (order : List Call)
    → IsOrder opening trace order → HasNoUnansweredLoad trace order → (configs : List Config) (n : ℕ) (c : Config)
    → IsIn configs c → KeepsUp opening table w (take n order) c → IsCut trace k w order n
    → GoesOnInTurn opening trace k table w order configs n
same_order opening trace k table w order o heard configs n c in' up cut = record {
  order = order;
  explains = o;
  heard = heard;
  stays = λ x a answered h. h;
  config = c;
  there = in';
  up = up;
  cut = cut;
}

-- an operation that is answered already, and idle, changes nothing
pass_idle : (opening : List ℕ) (trace : List Event) (k : ℕ) (table : List (Option Open)) (order : List Call)
    → IsOrder opening trace order → (w : ℕ) → IsIndexTable trace k w table → w < length opening → (n : ℕ) (c : Config)
    → KeepsUp opening table w (take n order) c
    → (d : Call) → slice_get order n ≡ Some d → d.operation.address ≡ w → WasIdle trace k d
    → KeepsUp opening table w (take (suc n) order) c
pass_idle opening trace k table order o w is inside n c up d at here idle =
    let word : ℕ = get_or (memory_of opening (take n order)) w 0 in
    let told = o.replies idle.0 n d idle.1 at idle.3 in
    let replied : reply_to d.operation.op word ≡ idle.1 =
    sym (told ∙ ap (λ (v : ℕ). reply_to d.operation.op (get_or (memory_of opening (take n order)) v 0)) here) in (
      up.0,
      subst (λ (q : List Call). Fits opening table w q up.0) (sym (take_push order n d at))
          (fits_idle opening trace k table w (take n order) up.0 d is inside here idle.0 idle.1 idle.2 idle.3
          (idle.4 word replied) up.1),
      up.2,
    )

-- an idle operation that has taken effect already does so in the order
pass_taken : (opening : List ℕ) (trace : List Event) (k : ℕ) (table : List (Option Open)) (order : List Call)
    → IsOrder opening trace order → (w : ℕ) → IsIndexTable trace k w table → w < length opening
    → (n : ℕ) (c : Config) → KeepsUp opening table w (take n order) c
    → (u : ℕ) (p : Open) → IsAt table u p → slice_get order n ≡ Some p.call → HasTakenEffect c u
    → KeepsUp opening table w (take (suc n) order) c
pass_taken opening trace k table order o w is inside n c up u p there at taken =
    let d : Config = up.0 in
    let fits : Fits opening table w (take n order) d = up.1 in
    let here : p.call.operation.address ≡ w = is.here u p there in
    let pending : IsOpen table w u p = record { there = there; here = here } in
    let left : IsLeft d u = ⊎_elim
    (λ (l : IsLeft d u). l)
    (λ (b : HasTakenEffect d u).
    let on = fits.taken u p pending b in
    let stands = take_get n order on.0 on.1 on.2 in
    let twice = o.once on.0 n on.1 p.call stands.1 at on.3 in
    let far = stands.0 in
    absurd (omega arith))
    (bit_cases d.taken u) in
    let agrees : AgreesWithValue p d.word = place_agrees opening trace k table order o w n d fits p (is.pending u p there) at here in (
      effect d u p,
      subst (λ (q : List Call). Fits opening table w q (effect d u p)) (sym (take_push order n p.call at))
          (fits_effect opening trace k table w (take n order) d u p is inside
          (record { pending = pending; left = left; agrees = agrees }) fits),
      good_skip table w c d u p (at_within trace k w table u p is there) pending left taken agrees up.2,
    )

-- one more operation of the order: it takes effect, if it is on the word
step_in_turn : (opening : List ℕ) (trace : List Event) (k : ℕ) (table : List (Option Open))
    → IsTrace (length opening) trace
    → (order : List Call) → IsOrder opening trace order → HasNoUnansweredLoad trace order
    → (w : ℕ) → IsIndexTable trace k w table → w < length opening
    → (configs : List Config)
    → (n : ℕ) (c : Config) → IsExpandedInTurn table w configs c → IsIn configs c
    → KeepsUp opening table w (take n order) c → IsCut trace k w order n
    → (d : Call) → slice_get order n ≡ Some d → (i : ℕ) → i < k → TraceIssuesAt trace i d
    → GoesOnInTurn opening trace k table w order configs (suc n)
step_in_turn opening trace k table t order o heard w is inside configs n c turn in' up cut d at i early issue =
    let next : IsCut trace k w order (suc n) = cut_on trace k w order n d at i early issue cut in
    ⊎_elim {C = GoesOnInTurn opening trace k table w order configs (suc n)}
    (λ (here : d.operation.address ≡ w).
    ⊎_elim {C = GoesOnInTurn opening trace k table w order configs (suc n)}
    (λ (r : (j : ℕ) × (reply : Reply) × (j < k) × TraceAnswersAt trace j d.id reply).
    ⊎_elim {C = GoesOnInTurn opening trace k table w order configs (suc n)}
    (λ (late : IsUnanswered trace k d.id). absurd (let l = late r.0 r.1 r.3 in let soon = r.2 in omega arith))
    (λ (idle : WasIdle trace k d).
    same_order opening trace k table w order o heard configs (suc n) c in'
    (pass_idle opening trace k table order o w is inside n c up d at here idle) next)
    (cut.behind n d (omega arith) at here))
    (λ (r : (u : ℕ) × (p : Open) × IsAt table u p × (p.call ≡ d)).
    let stands : slice_get order n ≡ Some r.1.call = at ∙ ap (λ (f : Call). Some f) (sym r.3) in
    ⊎_elim {C = GoesOnInTurn opening trace k table w order configs (suc n)}
    (λ (free : IsLeft c r.0).
    step_elder opening trace k table t w is inside configs n c up.0 turn up.2 (suc r.1.call.id) order o heard up.1 cut
    r.0 r.1 r.2 stands r.0 r.1 r.2 free (omega arith) (inl (refl, refl)))
    (λ (taken : HasTakenEffect c r.0).
    same_order opening trace k table w order o heard configs (suc n) c in'
    (pass_taken opening trace k table order o w is inside n c up r.0 r.1 r.2 stands taken) next)
    (bit_cases c.taken r.0))
    (is.known i d early issue here (heard n d at)))
    (λ (away : d.operation.address ≢ w).
    same_order opening trace k table w order o heard configs (suc n) c in' (
      up.0,
      subst (λ (q : List Call). Fits opening table w q up.0) (sym (take_push order n d at))
          (fits_other (length opening) opening trace k table w (take n order) up.0 d i t is issue
          (λ e. away (sym e)) up.1),
      up.2,
    )
    next)
    (cases_eq d.operation.address w)

-- what is answered has a promise, and takes effect in what is as good
left_too : (trace : List Event) (k : ℕ) (table : List (Option Open)) (w : ℕ) (c d : Config) (s : ℕ) (a : Open)
    (reply : Reply) → TraceAnswersAt trace k a.call.id reply → IsIndexTable trace k w table → IsAt table s a
    → IsAsGood table w c d → IsLeft c s → IsLeft d s
left_too trace k table w c d s a reply now is there good left = ⊎_elim
    (λ (l : IsLeft d s). l)
    (λ (b : HasTakenEffect d s). ⊎_elim
    (λ (t : HasTakenEffect c s). absurd (not_both (bit_at c.taken s) left t))
    (λ (r : (o : Open) × IsOpen table w s o × (o.promise ≡ None)). absurd
    (let here : slice_get table s ≡ Some (Some r.0) = r.1.there in
    let same : a ≡ r.0 = cc in
    let none : a.promise ≡ None = ap (λ (o : Open). o.promise) same ∙ r.2 in
    let some : a.promise ≡ Some reply = (is.pending s a there).kept k reply now in
    cc))
    (good.taken s (at_within trace k w table s a is there) b))
    (bit_cases d.taken s)

-- what the walk comes to: an order, and a cut of it where the answered operation has taken effect
pub record Arrives (opening : List ℕ) (trace : List Event) (k : ℕ) (table : List (Option Open)) (w s x : ℕ)
    (a : Call) (configs : List Config) : Type 0 where
  pub order : List Call
  pub explains : IsOrder opening trace order
  pub heard : HasNoUnansweredLoad trace order
  pub at : slice_get order x ≡ Some a
  pub place : ℕ
  pub config : Config
  pub there : IsIn configs config
  pub taken : HasTakenEffect config s
  pub up : KeepsUp opening table w (take place order) config
  pub cut : IsCut trace k w order place

arrived : (opening : List ℕ) (trace : List Event) (k : ℕ) (table : List (Option Open)) (w s x : ℕ) (a : Call)
    (configs : List Config) (n : ℕ) (order : List Call) → IsOrder opening trace order → HasNoUnansweredLoad trace order
    → slice_get order x ≡ Some a → (c : Config) → IsIn configs c → HasTakenEffect c s
    → KeepsUp opening table w (take n order) c → IsCut trace k w order n
    → Arrives opening trace k table w s x a configs
arrived opening trace k table w s x a configs n order o heard at c in' taken up cut = record {
  order = order;
  explains = o;
  heard = heard;
  at = at;
  place = n;
  config = c;
  there = in';
  taken = taken;
  up = up;
  cut = cut;
}

-- From a cut, operations of the order take effect up to the one that is answered, at place x, in slot s.
pub walk_in_turn : (opening : List ℕ) (trace : List Event) (k : ℕ) (table : List (Option Open))
    → IsTrace (length opening) trace
    → (s : ℕ) (a : Open) (reply : Reply)
    → IsIndexTable trace k a.call.operation.address table
    → TraceAnswersAt trace k a.call.id reply → IsAt table s a
    → a.call.operation.address < length opening
    → (x : ℕ) (configs : List Config)
    → ((c : Config) → IsIn configs c → IsLeft c s → IsExpandedInTurn table a.call.operation.address configs c)
    → (fuel n : ℕ) (order : List Call) → IsOrder opening trace order → HasNoUnansweredLoad trace order
    → slice_get order x ≡ Some a.call → (c : Config) → x < n + fuel → IsIn configs c
    → KeepsUp opening table a.call.operation.address (take n order) c
    → IsCut trace k a.call.operation.address order n
    → Arrives opening trace k table a.call.operation.address s x a.call configs
walk_in_turn opening trace k table t s a reply is now there inside x configs closed zero n order o heard at c enough in' up cut = ⊎_elim
    (λ (left : IsLeft c s). absurd
    (up.1.left s a (record { there = there; here = refl })
    (left_too trace k table a.call.operation.address c up.0 s a reply now is there up.2 left)
    (x, a.call, get_take n order x a.call (omega arith) at, refl)))
    (λ (taken : HasTakenEffect c s). arrived opening trace k table a.call.operation.address s x a.call configs n order o heard at c in' taken up cut)
    (bit_cases c.taken s)
walk_in_turn opening trace k table t s a reply is now there inside x configs closed (suc fuel) n order o heard at c enough in' up cut = ⊎_elim
    (λ (left : IsLeft c s).
    let beyond : n ≤ x = ⊎_elim
    (λ (l : x < n). absurd
    (up.1.left s a (record { there = there; here = refl })
    (left_too trace k table a.call.operation.address c up.0 s a reply now is there up.2 left)
    (x, a.call, get_take n order x a.call l at, refl)))
    (λ g. g)
    (cases_lt x n) in
    let l : n < length order = let m = get_within order x a.call at in omega arith in
    let d = within_length order n l in
    let issue = issued_early opening trace k order o a.call reply now x at n d.0 beyond d.1 in
    let more = step_in_turn opening trace k table t order o heard a.call.operation.address is inside configs n c
    (closed c in' left) in' up cut d.0 d.1 issue.0 issue.1 issue.2 in
    walk_in_turn opening trace k table t s a reply is now there inside x configs closed fuel (suc n) more.order more.explains
    more.heard (more.stays x a.call (k, reply, now) at) more.config (omega arith) more.there more.up more.cut)
    (λ (taken : HasTakenEffect c s). arrived opening trace k table a.call.operation.address s x a.call configs n order o heard at c in' taken up cut)
    (bit_cases c.taken s)
