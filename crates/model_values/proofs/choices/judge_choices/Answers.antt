use Rattle.std.proofs.Common.{◌-◌, inr, arith}
use Rattle.model_values.proofs.Taking.{cut_off, step_answer}
use Rattle.model_values.proofs.choices.judge_choices.Goals as goal

pub returns-in-Some : goal.returns-in-Some
returns-in-Some g c = step_answer {A = g.row.A.Denot} c.args.rules.now c.args.valued.now c.loop-looked.path.items c.step.new.path.items
    (c.args.nodes - c.loop-looked.looked) c.in_ok-verdict.field-0 c.in-Some.verdict c.in-Some.is c.in_ok-verdict.ensures
    c.loop-looked.looked c.args.nodes c.loop-looked.invariant.search (omega (arith, c.loop-looked-test.true))

pub returns : goal.returns
returns g c = inr (cut_off c.args.rules.now c.args.valued.now c.loop-looked.path.items c.loop-looked.looked c.args.nodes c.loop-looked.invariant.search
    (omega (arith, c.loop-looked.auto.looked-end)) (omega (arith, c.loop-looked-test.false)))
