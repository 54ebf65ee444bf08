use Rattle.std.proofs.Common.{◌-◌, arith}
use Rattle.state_search.proofs.Passing.{needed_by, one_more}
use Rattle.state_search.proofs.smallest.pass.Goals as goal

pub items-preserved-in-Needed : goal.items-preserved-in-Needed
items-preserved-in-Needed g c =
    let breaks = g.J.PartJudge.breaks c.args.judge.now in
    let stands = g.J.PartJudge.stands c.args.judge.now in
    let needed = needed_by c.args.sources.now breaks stands c.items.kept.items c.deref-then-is_kept.result.now (c.items.at - 1) c.items.left c.try_without.new.left c.in_ok-rest.field-0
    c.in-Needed.is c.deref-then-is_kept.ensures.value c.in_ok-rest.ensures.tried in
    record {
      closed = c.items.invariant.closed;
      broken = c.items.invariant.broken;
      within = c.items.invariant.within;
      inside = omega arith;
      fewer = omega arith;
      passed = one_more c.args.sources.now stands c.items.kept.items c.args.left.now c.items.left c.try_without.new.left c.items.at c.items.passed (omega arith) (omega arith) needed c.items.invariant.passed;
    }
