use Rattle.std.proofs.Common.{◌∙◌, sym, drop, arith}
use Rattle.script_lines.specs.declared.line.Line.TheVariants.{Load}
use Rattle.report_model.proofs.Scripted.{few_at, finished_leaves_none, handed_enough}
use Rattle.report_model.proofs.standing.hand.Goals as goal

pub append-requires-clause-few : goal.append-requires-clause-few
append-requires-clause-few g c =
    let none = finished_leaves_none c.loop-at.follower (sym c.finished.ensures ∙ c.if-finished.true) in
    let low = few_at c.args.lines.now c.loop-at.at (Load 0) c.requires.spins c.loop-at-test.true in
    let kept = c.loop-at.invariant.issued in
    omega (arith, none, low, kept, c.requires.few)

pub returns-else-finished-clause-standing : goal.returns-else-finished-clause-standing
returns-else-finished-clause-standing g c =
    handed_enough c.loop-at.follower c.loop-at.fence (drop c.loop-at.at c.args.lines.now) _ (sym c.finished.ensures ∙ c.if-finished.false) c.loop-at.invariant.leads
