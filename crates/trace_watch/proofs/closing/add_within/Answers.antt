use Rattle.std.proofs.Common.{arith}
use Rattle.trace_watch.proofs.Chains.{crowd_indexed}
use Rattle.trace_watch.proofs.closing.add_within.Goals as goal

pub returns-then-len-bound-clause-full : goal.returns-then-len-bound-clause-full
returns-then-len-bound-clause-full g c = λ e.
    let many = c.if-len-bound.true in
    let told = c.len.ensures in
    let sized = c.add.new.found.ok.0 in (
      c.in_ok-add.ensures.added,
      crowd_indexed c.add.new.index c.add.new.found.items c.args.bound (omega arith) c.in_ok-add.ensures.indexed,
    )
