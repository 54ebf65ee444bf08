use Rattle.std.proofs.Common.{◌<◌, ◌∙◌, length, arith, sym, subst}
use Rattle.std.proofs.lemmas.Option.{slice_get-get_or}
use Rattle.trace_why.proofs.Growing.{growing_none, growing, grown_all}
use Rattle.trace_why.proofs.Trying.{reached_old, reached_one, less_only, less_overfull}
use Rattle.std.proofs.lemmas.Result.{err_from_is_err_and}
use Rattle.trace_why.specs.declared.untold.Untold.{Untold}
use Rattle.trace_why.specs.Values.{IsReachedIn, IsLeftOf, IsOverfullWord}
use Rattle.trace_why.proofs.values.grow.Goals as goal

pub loop-value-init : goal.loop-value-init
loop-value-init g c = record {
  growing = growing_none c.args.calls.now _ c.args.values.now.items
      (c.deref-value-items.ensures.value ∙ (c.in_ok-old.ensures.items ∙ c.deref.ensures.value));
  only = reached_old c.args.values.now.items c.args.calls.now c.requires;
}

pub loop-value-preserved : goal.loop-value-preserved
loop-value-preserved g c =
    let l : c.loop-value.value-index < length c.deref-value-items.result.now = omega arith in
    let at = slice_get-get_or c.deref-value-items.result.now c.loop-value.value-index _ l in record {
      growing = growing c.args.calls.now c.deref-value-items.result.now c.loop-value.value-index c.args.values.now.items c.loop-value.values.items
          c.grow_one.new.values.items _ c.loop-value.invariant.growing at
          c.in_ok-grow_one.ensures.kept c.in_ok-grow_one.ensures.grown;
      only = less_only (IsLeftOf c.loop-value.values.items c.args.calls.now _) (IsReachedIn c.args.values.now.items c.args.calls.now 1)
          (reached_one c.args.values.now.items c.deref-value-items.result.now c.loop-value.values.items c.args.calls.now _ c.loop-value.value-index
          c.loop-value.invariant.only.each c.loop-value.invariant.growing.same at)
          c.grow_one.new.values.items c.in_ok-grow_one.ensures.only;
    }

pub returns-clause-grown : goal.returns-clause-grown
returns-clause-grown g c =
    grown_all c.args.calls.now c.deref-value-items.result.now c.loop-value.value-index c.args.values.now.items c.loop-value.values.items
    (let end = c.loop-value-test.false in omega arith) c.loop-value.invariant.growing

pub returns-clause-only : goal.returns-clause-only
returns-clause-only g c = c.loop-value.invariant.only

pub returns-in_err-grow_one-clause-untold : goal.returns-in_err-grow_one-clause-untold
returns-in_err-grow_one-clause-untold g c =
    let l : c.loop-value.value-index < length c.deref-value-items.result.now = omega arith in
    let at = slice_get-get_or c.deref-value-items.result.now c.loop-value.value-index _ l in
    let reached = IsReachedIn c.args.values.now.items c.args.calls.now 1 in
    let p = err_from_is_err_and c.from_residual-in_err-grow_one.result c.from_residual-in_err-grow_one.ensures.1 in
    rw p.1 (subst (λ (e : Untold). IsOverfullWord reached c.args.bound e) (sym p.2)
    (less_overfull (IsLeftOf c.loop-value.values.items c.args.calls.now _) reached
    (reached_one c.args.values.now.items c.deref-value-items.result.now c.loop-value.values.items c.args.calls.now _ c.loop-value.value-index
    c.loop-value.invariant.only.each c.loop-value.invariant.growing.same at)
    c.args.bound _ c.in_err-grow_one.ensures.untold))
