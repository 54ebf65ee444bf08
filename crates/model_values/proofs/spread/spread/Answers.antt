use Rattle.model_values.proofs.Table.{has_spread, spread_then}
use Rattle.model_values.proofs.spread.spread.Goals as goal

pub passes-init : goal.passes-init
passes-init c = has_spread c.args.question.now c.args.level c.args.table.now

pub passes-preserved : goal.passes-preserved
passes-preserved c = spread_then c.args.question.now c.args.level c.args.table.now c.passes.table c.spread_once.new.table c.passes.invariant
    c.spread_once.ensures.spread

pub passes-smaller : goal.passes-smaller
passes-smaller c = c.spread_once.ensures.more.fewer c.if-not-spread_once.false

pub returns-then-not-spread_once : goal.returns-then-not-spread_once
returns-then-not-spread_once c = record {
  spread = spread_then c.args.question.now c.args.level c.args.table.now c.passes.table c.spread_once.new.table c.passes.invariant
      c.spread_once.ensures.spread;
  concluded = c.spread_once.ensures.concluded c.if-not-spread_once.true;
}
