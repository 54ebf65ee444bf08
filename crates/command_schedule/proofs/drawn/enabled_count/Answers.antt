-- One more is counted where it is enabled.
use Rattle.std.specs.Prelude.{is_some}
use Rattle.torus.specs.declared.step.Step.{Step}
use Rattle.core_laws.specs.Core.{step}
use Rattle.core_laws.specs.Machine.{built_to}
use Rattle.command_schedule.proofs.Drawing.{all_counted, count_more, few_more}
use Rattle.command_schedule.proofs.drawn.enabled_count.Goals as goal

pub loop-attempt-preserved : goal.loop-attempt-preserved
loop-attempt-preserved g c = record {
  counted = count_more (λ (x : Step). is_some (step (built_to c.args.machine.now) c.args.machine.now.state x)) c.args.attempts.now
      c.loop-attempt.attempt-index _ c.loop-attempt.count c.from-count.result c.enabled.result c.loop-attempt-test.true c.loop-attempt.invariant.counted
      c.enabled.ensures c.from-count.ensures;
  few = few_more c.loop-attempt.attempt-index c.loop-attempt.count c.from-count.result c.enabled.result c.loop-attempt.invariant.few c.from-count.ensures;
}

pub returns : goal.returns
returns g c =
    all_counted (λ (x : Step). is_some (step (built_to c.args.machine.now) c.args.machine.now.state x)) c.args.attempts.now
    c.loop-attempt.attempt-index c.loop-attempt.count c.loop-attempt-test.false c.loop-attempt.invariant.counted
