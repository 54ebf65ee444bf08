use Rattle.std.proofs.Common.{◌<◌, ◌≤◌, Bool, sym, ◌∙◌, arith, length, length-set}
use Rattle.std.specs.Prelude.{is_some}
use Rattle.torus.specs.declared.step.Step.{Step}
use Rattle.core_laws.specs.Core.{step}
use Rattle.core_laws.specs.Machine.{Core, built_to}
use Rattle.command_schedule.proofs.Turned.{keep_all, keep_none, keep_one}
use Rattle.command_schedule.proofs.clocked.keep_enabled.Goals as goal

-- whether an attempt is enabled
abbrev can : Core → Step → Bool
can m x = is_some (step (built_to m) m.state x)

pub loop-attempt-preserved-then-not-enabled : goal.loop-attempt-preserved-then-not-enabled
loop-attempt-preserved-then-not-enabled g c = record {
  kept = keep_none (can c.args.machine.now) c.args.attempts.now c.loop-attempt.room c.loop-attempt.attempt-index c.loop-attempt.count _
      c.loop-attempt-test.true c.loop-attempt.invariant.kept (sym c.enabled.ensures ∙ c.if-not-enabled.true);
  few = omega arith;
  room = c.loop-attempt.invariant.room;
}

pub loop-attempt-preserved : goal.loop-attempt-preserved
loop-attempt-preserved g c =
    let long = c.loop-attempt.invariant.room in
    let few = c.loop-attempt.invariant.few in
    let within : c.loop-attempt.count < length c.loop-attempt.room = omega (arith, c.requires) in
    record {
      kept = keep_one (can c.args.machine.now) c.args.attempts.now c.loop-attempt.room c.loop-attempt.attempt-index c.loop-attempt.count _
          c.loop-attempt-test.true within c.loop-attempt.invariant.kept (sym c.enabled.ensures ∙ c.if-not-enabled.false);
      few = omega arith;
      room = length-set c.loop-attempt.room c.loop-attempt.count _ ∙ long;
    }

pub returns : goal.returns
returns g c = record {
  kept = keep_all (can c.args.machine.now) c.args.attempts.now c.loop-attempt.attempt-index _ c.loop-attempt-test.false c.loop-attempt.invariant.kept;
  within = omega (arith, c.requires, c.loop-attempt.invariant.room, c.loop-attempt.invariant.few);
  room = c.loop-attempt.invariant.room;
}
