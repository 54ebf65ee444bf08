use Rattle.std.proofs.Common.{◌<◌, ℕ, length, ap, subst, arith, sym}
use Rattle.std.specs.Prelude.{Contains}
use Rattle.std.proofs.lemmas.Option.{slice_get-get_or}
use Rattle.packet.specs.declared.kinds.Reply.{Reply}
use Rattle.trace_why.proofs.Growing.{growing_one_none, growing_one, grown_one}
use Rattle.trace_why.proofs.Trying.{IsOrNew, left_old, left_more, less_only, less_overfull}
use Rattle.std.proofs.lemmas.Result.{err_from_is_err_and}
use Rattle.trace_why.specs.declared.untold.Untold.{Untold}
use Rattle.trace_why.specs.Values.{IsLeftOf, IsOverfullWord}
use Rattle.trace_why.proofs.values.grow_one.Goals as goal

pub loop-found-init : goal.loop-found-init
loop-found-init g c = record {
  growing = growing_one_none c.args.calls.now c.args.value c.args.values.now.items;
  only = left_old c.args.values.now.items c.args.calls.now c.args.value c.requires;
}

pub loop-found-preserved : goal.loop-found-preserved
loop-found-preserved g c =
    let l : c.loop-found.found-index < length c.args.calls.now = omega arith in
    let at = slice_get-get_or c.args.calls.now c.loop-found.found-index _ l in record {
      growing = growing_one c.args.calls.now c.args.value c.loop-found.found-index c.args.values.now.items c.loop-found.values.items
          c.add.new.values.items _
          c.loop-found.invariant.growing at c.in_ok-add.ensures.kept
          (subst (λ (v : ℕ). Contains c.add.new.values.items v) (ap (λ (p : ℕ × Reply). p.0) c.apply.ensures) c.in_ok-add.ensures.there);
      only = less_only (IsOrNew c.loop-found.values.items c.apply.result.0) (IsLeftOf c.args.values.now.items c.args.calls.now c.args.value)
          (left_more c.args.values.now.items c.loop-found.values.items c.args.calls.now c.args.value c.apply.result.0 c.loop-found.found-index _
          c.loop-found.invariant.only.each at (ap (λ (p : ℕ × Reply). p.0) c.apply.ensures))
          c.add.new.values.items c.in_ok-add.ensures.only;
    }

pub returns-clause-grown : goal.returns-clause-grown
returns-clause-grown g c =
    grown_one c.args.calls.now c.args.value c.loop-found.found-index c.args.values.now.items c.loop-found.values.items
    (let end = c.loop-found-test.false in omega arith) c.loop-found.invariant.growing

pub returns-clause-only : goal.returns-clause-only
returns-clause-only g c = c.loop-found.invariant.only

pub returns-in_err-add-clause-untold : goal.returns-in_err-add-clause-untold
returns-in_err-add-clause-untold g c =
    let l : c.loop-found.found-index < length c.args.calls.now = omega arith in
    let at = slice_get-get_or c.args.calls.now c.loop-found.found-index _ l in
    let left = IsLeftOf c.args.values.now.items c.args.calls.now c.args.value in
    let p = err_from_is_err_and c.from_residual.result c.from_residual.ensures.1 in
    rw p.1 (subst (λ (e : Untold). IsOverfullWord left c.args.bound e) (sym p.2)
    (less_overfull (IsOrNew c.loop-found.values.items c.apply.result.0) left
    (left_more c.args.values.now.items c.loop-found.values.items c.args.calls.now c.args.value c.apply.result.0 c.loop-found.found-index _
    c.loop-found.invariant.only.each at (ap (λ (p : ℕ × Reply). p.0) c.apply.ensures))
    c.args.bound _ c.in_err-add.ensures.untold))
