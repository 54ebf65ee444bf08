use Rattle.std.proofs.Common.{arith}
use Rattle.memory_models.proofs.Stepped.{rule_step}
use Rattle.memory_models.proofs.program.rule_arcs.Goals as goal

pub loop-y-preserved : goal.loop-y-preserved
loop-y-preserved g c =
    let i = c.loop-y.invariant in
    let s = rule_step c.args.rules.now c.args.rule c.args.words c.args.operations.now c.args.writes.now c.loop-y.y c.rule_key-key.result
    c.index-last.result.now c.later.result c.follows-wanted.result c.has.result c.loop-y.lasts.items c.loop-y.edges.items c.push_if.new.edges.items
    c.requires.trace c.requires.chained c.requires.rule c.loop-y-test.true i.lasts i.arcs i.rises c.rule_key-key.ensures c.index-last.ensures
    c.follows-wanted.ensures c.in_ok-push_if.ensures c.has.ensures c.later.ensures in
    record { arcs = s.arcs; more = λ number up. i.more number (s.more number up); rises = s.rises; lasts = s.last }

pub returns-clause-rises : goal.returns-clause-rises
returns-clause-rises g c number up x y low a = let over = c.loop-y-test.false in c.loop-y.invariant.rises number up x y (omega arith) a
