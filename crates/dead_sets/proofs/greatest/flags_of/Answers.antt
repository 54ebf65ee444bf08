use Rattle.std.proofs.Common.{◌+◌, sym, subst, arith}
use Rattle.dead_sets.proofs.Zeros.{AreFlagsSo, flags_begin, flags_more, flags_end}
use Rattle.dead_sets.proofs.greatest.flags_of.Goals as goal

pub loop-x-init : goal.loop-x-init
loop-x-init g c = subst (AreFlagsSo c.args.left.now 0) (sym c.new-flags.ensures.items) (flags_begin c.args.left.now)

pub loop-x-preserved : goal.loop-x-preserved
loop-x-preserved g c =
    let l = c.loop-x in
    flags_more c.args.left.now l.x (l.x + 1) l.flags.items _ (omega arith) c.in_ok-push.ensures.items l.invariant

pub returns : goal.returns
returns g c = flags_end c.args.left.now c.loop-x.x c.loop-x.flags.items (omega arith) c.loop-x.invariant
