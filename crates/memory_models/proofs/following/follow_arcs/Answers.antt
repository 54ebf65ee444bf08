use Rattle.std.proofs.Common.{◌-◌, arith}
use Rattle.memory_models.proofs.Follow.{follow_step}
use Rattle.memory_models.proofs.following.follow_arcs.Goals as goal

pub back-preserved : goal.back-preserved
back-preserved g c =
    let i = c.back.invariant in
    let some = c.back-test.true in
    let s = follow_step c.args.rules.now c.args.rule c.args.words c.args.operations.now c.args.writes.now c.back.x (c.back.x - 1) c.rule_key-key.result
    c.index-next.result.now c.later.result c.comes-wanted.result c.has.result c.back.nexts.items c.back.edges.items c.push_if.new.edges.items
    c.requires.trace c.requires.chained c.requires.rule (omega arith) i.firsts i.arcs i.rises c.rule_key-key.ensures c.index-next.ensures
    c.comes-wanted.ensures c.in_ok-push_if.ensures c.has.ensures c.later.ensures in
    record { arcs = s.arcs; more = λ number up. i.more number (s.more number up); rises = s.rises; firsts = s.firsts }

pub returns-clause-rises : goal.returns-clause-rises
returns-clause-rises g c number up x y low a = let none = c.back-test.false in c.back.invariant.rises number up x y (omega arith) low a
