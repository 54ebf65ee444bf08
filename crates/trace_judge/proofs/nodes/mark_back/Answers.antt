use Rattle.std.proofs.Common.{◌-◌, arith, ◌∙◌}
use Rattle.trace_judge.proofs.Ranks.{closes_none, closes_more}
use Rattle.trace_judge.proofs.nodes.mark_back.Goals as goal

pub loop-i-init : goal.loop-i-init
loop-i-init c = closes_none c.args.nodes.now c.args.marks.now c.requires.sized

pub mark_before-requires-clause-sized : goal.mark_before-requires-clause-sized
mark_before-requires-clause-sized c = c.loop-i.invariant.sized ∙ c.requires.sized

pub mark_before-requires-clause-inside : goal.mark_before-requires-clause-inside
mark_before-requires-clause-inside c = let l = c.loop-i.invariant.low in omega arith

pub loop-i-preserved : goal.loop-i-preserved
loop-i-preserved c =
    closes_more c.args.nodes.now c.args.marks.now c.loop-i.marks c.mark_before.new.marks c.loop-i.i (c.loop-i.i - 1) (omega arith)
    c.mark_before.auto.marks c.mark_before.ensures.kept c.mark_before.ensures.above c.mark_before.ensures.closed c.loop-i.invariant

pub returns-clause-kept : goal.returns-clause-kept
returns-clause-kept c = c.loop-i.invariant.kept

pub returns-clause-closed : goal.returns-clause-closed
returns-clause-closed c = λ i. c.loop-i.invariant.closed i (omega arith)
