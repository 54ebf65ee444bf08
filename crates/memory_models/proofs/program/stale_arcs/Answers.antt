use Rattle.memory_models.proofs.Stepped.{stale_step}
use Rattle.memory_models.proofs.program.stale_arcs.Goals as goal

pub loop-y-preserved : goal.loop-y-preserved
loop-y-preserved g c =
    let i = c.loop-y.invariant in
    let s = stale_step c.args.rules.now c.args.words c.args.operations.now c.args.writes.now c.writes_rule-rule.result c.loop-y.y c.rule_key-key.result
    c.index-last.result.now c.later.result c.is_stale-wanted.result c.has.result c.loop-y.lasts.items c.loop-y.edges.items c.push_if.new.edges.items
    c.requires.trace c.loop-y-test.true c.writes_rule-rule.ensures i.lasts i.arcs i.rises c.rule_key-key.ensures c.index-last.ensures
    c.is_stale-wanted.ensures c.in_ok-push_if.ensures c.has.ensures c.later.ensures in
    record { arcs = s.arcs; more = λ number up. i.more number (s.more number up); rises = s.rises; lasts = s.last }
