use Rattle.std.proofs.Common.{◌<◌, length, arith}
use Rattle.std.proofs.lemmas.Option.{slice_get-get_or}
use Rattle.trace_judge.proofs.Ranks.{ending_none, ending_more, ending_all}
use Rattle.trace_judge.proofs.nodes.mark_ends.Goals as goal

pub loop-n-init : goal.loop-n-init
loop-n-init c = ending_none c.args.branches.now c.args.marks.now

pub mark_one-requires : goal.mark_one-requires
mark_one-requires c = λ i e.
    let l : c.loop-n.n < length c.args.branches.now = omega arith in
    let m = c.requires i _ (c.loop-n.n, slice_get-get_or c.args.branches.now c.loop-n.n _ l) e in
    let s = c.loop-n.invariant.sized in
    omega arith

pub loop-n-preserved : goal.loop-n-preserved
loop-n-preserved c =
    let l : c.loop-n.n < length c.args.branches.now = omega arith in
    ending_more c.args.branches.now c.args.marks.now c.loop-n.marks c.mark_one.new.marks c.loop-n.n _
    (slice_get-get_or c.args.branches.now c.loop-n.n _ l) c.mark_one.auto.marks c.mark_one.ensures.kept c.mark_one.ensures.end
    c.loop-n.invariant

pub returns-clause-kept : goal.returns-clause-kept
returns-clause-kept c = c.loop-n.invariant.kept

pub returns-clause-ends : goal.returns-clause-ends
returns-clause-ends c = ending_all c.args.branches.now c.args.marks.now c.loop-n.n c.loop-n.marks (omega arith) c.loop-n.invariant
