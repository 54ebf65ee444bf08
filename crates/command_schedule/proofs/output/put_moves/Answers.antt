-- One attempt more, and the attempts that are left.
use Rattle.std.proofs.Common.{◌≡◌, ◌+◌, ◌≤◌, ◌++◌, List, [], ◌∷◌, drop, get_or, length, refl, sym, ap, subst, ◌∙◌}
use Rattle.std.proofs.Common.{append-nil}
use Rattle.std.proofs.lemmas.List.{at_drop_all, at_drop_more}
use Rattle.std.proofs.lemmas.Result.{err_from_is_err_and}
use Rattle.torus.specs.declared.step.Step.{Step}
use Rattle.core_laws.specs.Machine.{core_after}
use Rattle.command_schedule.specs.Line.{text_of}
use Rattle.program_fault.specs.Done.{TookAll}
use Rattle.command_schedule.specs.Output.{headed}
use Rattle.command_schedule.proofs.Attempts.{HasPut, put_front, put_more, start_put, all_put, all_led}
use Rattle.command_schedule.proofs.output.put_moves.Goals as goal

pub loop-step-init : goal.loop-step-init
loop-step-init g c = start_put c.args.machine.now c.args.heading c.args.steps.now _

pub loop-step-preserved : goal.loop-step-preserved
loop-step-preserved g c =
    put_more _ _ _ _ c.loop-step.machine c.loop-step.heading _ _ c.loop-step.invariant
    (get_or c.args.steps.now c.loop-step.step-index _) (drop (c.loop-step.step-index + 1) c.args.steps.now)
    (at_drop_more (λ (xs : List Step). xs) c.args.steps.now c.loop-step.step-index _ c.loop-step-test.true)
    c.put_attempt.new.machine c.put_attempt.ensures.machine _ c.in_ok-heading.heading c.in_ok-heading.ensures.left c.in_ok-heading.ensures.took

pub returns-in_err-heading-clause-took : goal.returns-in_err-heading-clause-took
returns-in_err-heading-clause-took g c =
    let p = err_from_is_err_and c.from_residual.result c.from_residual.ensures.1 in
    rw p.1 (put_front _ _ _ _ c.loop-step.machine c.loop-step.heading _ _ c.loop-step.invariant
    (get_or c.args.steps.now c.loop-step.step-index _) (drop (c.loop-step.step-index + 1) c.args.steps.now)
    (at_drop_more (λ (xs : List Step). xs) c.args.steps.now c.loop-step.step-index _ c.loop-step-test.true)
    c.put_attempt.new.machine c.put_attempt.ensures.machine _ c.in_err-heading.ensures.took)

pub returns-clause-machine : goal.returns-clause-machine
returns-clause-machine g c =
    all_led _ _ _ _ c.loop-step.machine c.loop-step.heading _ _ c.loop-step.invariant
    (at_drop_all (λ (xs : List Step). xs) c.args.steps.now c.loop-step.step-index c.loop-step-test.false)

pub returns-clause-took : goal.returns-clause-took
returns-clause-took g c =
    all_put _ _ _ _ c.loop-step.machine c.loop-step.heading _ _ c.loop-step.invariant
    (at_drop_all (λ (xs : List Step). xs) c.args.steps.now c.loop-step.step-index c.loop-step-test.false)
