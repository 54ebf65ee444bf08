-- One attempt more, or one that is held back, and the attempts that are left.
use Rattle.std.proofs.Common.{◌≡◌, ◌+◌, List, ◌∷◌, Some, drop, get_or, sym, ap, ◌∙◌}
use Rattle.std.proofs.lemmas.List.{at_drop_all, at_drop_more}
use Rattle.std.proofs.lemmas.Result.{err_from_is_err_and}
use Rattle.torus.specs.declared.step.Step.{Step}
use Rattle.core_laws.specs.Machine.{Core, core_next}
use Rattle.machine_core.specs.Guarded.{held_back}
use Rattle.command_schedule.proofs.Attempts.{left_as, put_front, put_more, start_put, all_put, all_led}
use Rattle.command_schedule.proofs.HeldBack.{one_skipped, one_made, none_left}
use Rattle.command_schedule.proofs.fair.put_guarded.Goals as goal

pub loop-step-init : goal.loop-step-init
loop-step-init g c = start_put c.args.machine.now (Some c.args.number) (held_back c.args.held c.args.machine.now c.args.steps.now) _

pub loop-step-preserved-then-holds_back : goal.loop-step-preserved-then-holds_back
loop-step-preserved-then-holds_back g c =
    let m : Core = c.loop-step.machine in
    left_as _ _ _ _ m c.loop-step.heading _ _ _
    (at_drop_more (λ (xs : List Step). held_back c.args.held m xs) c.args.steps.now c.loop-step.step-index _ c.loop-step-test.true
    ∙ one_skipped c.args.held m (get_or c.args.steps.now c.loop-step.step-index _) (drop (c.loop-step.step-index + 1) c.args.steps.now)
    (sym c.holds_back.ensures ∙ c.if-holds_back.true))
    c.loop-step.invariant

pub loop-step-preserved : goal.loop-step-preserved
loop-step-preserved g c =
    let m : Core = c.loop-step.machine in
    let rest : List Step = drop (c.loop-step.step-index + 1) c.args.steps.now in
    left_as _ _ _ _ c.put_attempt.new.machine c.in_ok-heading.heading _ _ _
    (ap (λ (e : Core). held_back c.args.held e rest) (sym c.put_attempt.ensures.machine))
    (put_more _ _ _ _ m c.loop-step.heading _ _ c.loop-step.invariant
    (get_or c.args.steps.now c.loop-step.step-index _) (held_back c.args.held (core_next m (get_or c.args.steps.now c.loop-step.step-index _)) rest)
    (at_drop_more (λ (xs : List Step). held_back c.args.held m xs) c.args.steps.now c.loop-step.step-index _ c.loop-step-test.true
    ∙ one_made c.args.held m (get_or c.args.steps.now c.loop-step.step-index _) rest (sym c.holds_back.ensures ∙ c.if-holds_back.false))
    c.put_attempt.new.machine c.put_attempt.ensures.machine _ c.in_ok-heading.heading c.in_ok-heading.ensures.left c.in_ok-heading.ensures.took)

pub returns-in_err-heading-clause-took : goal.returns-in_err-heading-clause-took
returns-in_err-heading-clause-took g c =
    let p = err_from_is_err_and c.from_residual.result c.from_residual.ensures.1 in
    let m : Core = c.loop-step.machine in
    let rest : List Step = drop (c.loop-step.step-index + 1) c.args.steps.now in
    rw p.1 (put_front _ _ _ _ m c.loop-step.heading _ _ c.loop-step.invariant
    (get_or c.args.steps.now c.loop-step.step-index _) (held_back c.args.held (core_next m (get_or c.args.steps.now c.loop-step.step-index _)) rest)
    (at_drop_more (λ (xs : List Step). held_back c.args.held m xs) c.args.steps.now c.loop-step.step-index _ c.loop-step-test.true
    ∙ one_made c.args.held m (get_or c.args.steps.now c.loop-step.step-index _) rest (sym c.holds_back.ensures ∙ c.if-holds_back.false))
    c.put_attempt.new.machine c.put_attempt.ensures.machine _ c.in_err-heading.ensures.took)

pub returns-clause-machine : goal.returns-clause-machine
returns-clause-machine g c =
    all_led _ _ _ _ c.loop-step.machine c.loop-step.heading _ _ c.loop-step.invariant
    (at_drop_all (λ (xs : List Step). held_back c.args.held c.loop-step.machine xs) c.args.steps.now c.loop-step.step-index c.loop-step-test.false
    ∙ none_left c.args.held c.loop-step.machine)

pub returns-clause-took : goal.returns-clause-took
returns-clause-took g c =
    all_put _ _ _ _ c.loop-step.machine c.loop-step.heading _ _ c.loop-step.invariant
    (at_drop_all (λ (xs : List Step). held_back c.args.held c.loop-step.machine xs) c.args.steps.now c.loop-step.step-index c.loop-step-test.false
    ∙ none_left c.args.held c.loop-step.machine)
