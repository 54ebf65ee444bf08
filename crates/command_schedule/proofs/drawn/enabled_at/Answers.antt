-- The attempt is the next, or behind it.
use Rattle.std.proofs.Common.{Bool, sym, ◌∙◌, arith, slice_get}
use Rattle.std.specs.Prelude.{is_some}
use Rattle.torus.specs.declared.step.Step.{Step}
use Rattle.core_laws.specs.Core.{step}
use Rattle.core_laws.specs.Machine.{Core, built_to}
use Rattle.command_schedule.specs.Drawn.{enabled_now}
use Rattle.command_schedule.proofs.Drawing.{found_here, found_later, found_none, found_past}
use Rattle.command_schedule.proofs.drawn.enabled_at.Goals as goal

-- whether an attempt is enabled
abbrev can : Core → Step → Bool
can m x = is_some (step (built_to m) m.state x)

pub loop-attempt-preserved-then-not-enabled : goal.loop-attempt-preserved-then-not-enabled
loop-attempt-preserved-then-not-enabled g c =
    found_past (can c.args.machine.now) c.args.attempts.now c.loop-attempt.attempt-index c.loop-attempt.left _
    (slice_get (enabled_now c.args.machine.now c.args.attempts.now) c.args.index) c.loop-attempt-test.true c.loop-attempt.invariant
    (sym c.enabled.ensures ∙ c.if-not-enabled.true)

pub loop-attempt-preserved : goal.loop-attempt-preserved
loop-attempt-preserved g c =
    found_later (can c.args.machine.now) c.args.attempts.now c.loop-attempt.attempt-index c.loop-attempt.left _
    (slice_get (enabled_now c.args.machine.now c.args.attempts.now) c.args.index) c.loop-attempt-test.true c.loop-attempt.invariant
    (sym c.enabled.ensures ∙ c.if-not-enabled.false) (omega arith)

pub returns-then-left-eq0 : goal.returns-then-left-eq0
returns-then-left-eq0 g c =
    found_here (can c.args.machine.now) c.args.attempts.now c.loop-attempt.attempt-index c.loop-attempt.left _
    (slice_get (enabled_now c.args.machine.now c.args.attempts.now) c.args.index) c.loop-attempt-test.true c.loop-attempt.invariant
    (sym c.enabled.ensures ∙ c.if-not-enabled.false) c.if-left-eq0.true

pub returns : goal.returns
returns g c =
    found_none (can c.args.machine.now) c.args.attempts.now c.loop-attempt.attempt-index c.loop-attempt.left
    (slice_get (enabled_now c.args.machine.now c.args.attempts.now) c.args.index) c.loop-attempt-test.false c.loop-attempt.invariant
