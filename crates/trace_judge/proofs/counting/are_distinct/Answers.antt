use Rattle.std.proofs.Common.{◌<◌, length, arith, sym, ◌∙◌}
use Rattle.std.proofs.lemmas.Option.{slice_get-get_or}
use Rattle.trace_judge.proofs.Distinct.{distinct_none, distinct_pair, distinct_all, not_true}
use Rattle.trace_judge.proofs.counting.are_distinct.Goals as goal

pub loop-i-init : goal.loop-i-init
loop-i-init g c = distinct_none c.args.branches.now _

pub loop-i-preserved : goal.loop-i-preserved
loop-i-preserved g c =
    let l : c.loop-i.i < length c.args.branches.now = omega arith in
    distinct_pair c.args.branches.now c.loop-i.i c.loop-i.seen c.insert.new.self _ c.taken_of-taken.result
    (slice_get-get_or c.args.branches.now c.loop-i.i _ l) c.taken_of-taken.ensures c.taken_of-taken.type_inv
    (not_true _ (sym c.if-not-branch.false ∙ c.in_ok-insert.ensures.added))
    c.in_ok-insert.ensures.updates.0 c.in_ok-insert.ensures.updates.1 c.loop-i.invariant

pub returns : goal.returns
returns g c = λ e. distinct_all c.args.branches.now c.loop-i.i c.loop-i.seen (omega arith) c.loop-i.invariant
