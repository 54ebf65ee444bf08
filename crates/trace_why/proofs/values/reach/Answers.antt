use Rattle.std.proofs.Common.{◌≡◌, ◌+◌, ℕ, suc, List, length, subst, arith, sym}
use Rattle.trace_why.specs.Values.{AreClosed, IsOverfullWord, IsReachedIn}
use Rattle.trace_why.proofs.Growing.{closed_all, round_more}
use Rattle.trace_why.proofs.Trying.{reached_next, reached_later, less_only, less_overfull}
use Rattle.std.proofs.lemmas.Result.{err_from_is_err_and}
use Rattle.trace_why.specs.declared.untold.Untold.{Untold}
use Rattle.trace_why.proofs.values.reach.Goals as goal

pub loop-init : goal.loop-init
loop-init g c = record { has = λ v h. h; only = record { apart = c.requires; each = λ v h. h } }

pub loop-preserved : goal.loop-preserved
loop-preserved g c =
    let one : c.loop.counter + 1 ≡ suc c.loop.counter = omega arith in record {
      has = λ v h. round_more c.args.values.now.items c.args.calls.now c.loop.counter c.loop.values.items c.grow.new.values.items c.loop.invariant.has
          c.in_ok-grow.ensures.kept c.in_ok-grow.ensures.grown v
          (subst (λ (n : ℕ). IsReachedIn c.args.values.now.items c.args.calls.now n v) one h);
      only = less_only (IsReachedIn c.loop.values.items c.args.calls.now 1) (IsReachedIn c.args.values.now.items c.args.calls.now (c.loop.counter + 1))
          (λ v h. subst (λ (n : ℕ). IsReachedIn c.args.values.now.items c.args.calls.now n v) (sym one)
          (reached_next c.args.values.now.items c.loop.values.items c.args.calls.now c.loop.counter c.loop.invariant.only.each v h))
          c.grow.new.values.items c.in_ok-grow.ensures.only;
    }

pub returns-then-are_closed-clause-all : goal.returns-then-are_closed-clause-all
returns-then-are_closed-clause-all g c =
    let closed = subst (λ (vs : List ℕ). AreClosed vs c.args.calls.now) c.deref.ensures.value (c.are_closed.ensures c.if-are_closed.true) in
    closed_all c.args.values.now.items c.loop.values.items c.args.calls.now closed
    (λ v h. c.loop.invariant.has v (reached_later c.args.values.now.items c.args.calls.now 0 c.loop.counter v (omega arith) h)) (length c.args.calls.now)

pub returns-then-are_closed-clause-only : goal.returns-then-are_closed-clause-only
returns-then-are_closed-clause-only g c =
    less_only (IsReachedIn c.args.values.now.items c.args.calls.now c.loop.counter)
    (IsReachedIn c.args.values.now.items c.args.calls.now (length c.args.calls.now))
    (λ v h. reached_later c.args.values.now.items c.args.calls.now c.loop.counter (length c.args.calls.now) v (omega arith) h)
    c.loop.values.items c.loop.invariant.only

pub returns-clause-all : goal.returns-clause-all
returns-clause-all g c = λ v h.
    let end : length c.args.calls.now ≡ c.loop.counter = omega arith in
    c.loop.invariant.has v (subst (λ (n : ℕ). IsReachedIn c.args.values.now.items c.args.calls.now n v) end h)

pub returns-clause-only : goal.returns-clause-only
returns-clause-only g c =
    let end : c.loop.counter ≡ length c.args.calls.now = omega arith in
    less_only (IsReachedIn c.args.values.now.items c.args.calls.now c.loop.counter)
    (IsReachedIn c.args.values.now.items c.args.calls.now (length c.args.calls.now))
    (λ v h. subst (λ (n : ℕ). IsReachedIn c.args.values.now.items c.args.calls.now n v) end h) c.loop.values.items c.loop.invariant.only

pub returns-in_err-grow-clause-untold : goal.returns-in_err-grow-clause-untold
returns-in_err-grow-clause-untold g c =
    let reached = IsReachedIn c.args.values.now.items c.args.calls.now (length c.args.calls.now) in
    let p = err_from_is_err_and c.from_residual.result c.from_residual.ensures.1 in
    rw p.1 (subst (λ (e : Untold). IsOverfullWord reached c.args.bound e) (sym p.2)
    (less_overfull (IsReachedIn c.loop.values.items c.args.calls.now 1) reached
    (λ v h. reached_later c.args.values.now.items c.args.calls.now (suc c.loop.counter) (length c.args.calls.now) v (omega arith)
    (reached_next c.args.values.now.items c.loop.values.items c.args.calls.now c.loop.counter c.loop.invariant.only.each v h))
    c.args.bound _ c.in_err-grow.ensures.untold))
