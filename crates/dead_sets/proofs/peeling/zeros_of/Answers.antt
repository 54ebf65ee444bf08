use Rattle.std.proofs.Common.{◌+◌, sym, subst, arith}
use Rattle.dead_sets.proofs.Zeros.{AreZerosSo, zeros_begin, zeros_skip, zeros_put, zeros_end}
use Rattle.dead_sets.proofs.peeling.zeros_of.Goals as goal

pub loop-x-init : goal.loop-x-init
loop-x-init g c = subst (AreZerosSo c.args.left.now 0) (sym c.new-order.ensures.items) (zeros_begin c.args.left.now)

pub loop-x-preserved-then-left-x-ne0 : goal.loop-x-preserved-then-left-x-ne0
loop-x-preserved-then-left-x-ne0 g c =
    let l = c.loop-x in
    zeros_skip c.args.left.now l.x (l.x + 1) l.order.items (omega arith) (omega arith) c.if-left-x-ne0.true l.invariant

pub loop-x-preserved : goal.loop-x-preserved
loop-x-preserved g c =
    let l = c.loop-x in
    zeros_put c.args.left.now l.x (l.x + 1) l.order.items _ (omega arith) (omega arith) c.if-left-x-ne0.false c.in_ok-push.ensures.items l.invariant

pub returns-clause-zeros : goal.returns-clause-zeros
returns-clause-zeros g c = (zeros_end c.args.left.now c.loop-x.x c.loop-x.order.items (omega arith) c.loop-x.invariant).0

pub returns-clause-few : goal.returns-clause-few
returns-clause-few g c = (zeros_end c.args.left.now c.loop-x.x c.loop-x.order.items (omega arith) c.loop-x.invariant).1
