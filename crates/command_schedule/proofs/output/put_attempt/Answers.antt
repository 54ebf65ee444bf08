-- An attempt that moved is put, and one that didn't is no move.
use Rattle.std.proofs.Common.{List, sym, ap, ◌∙◌}
use Rattle.std.proofs.lemmas.Result.{err_from_is_err_and}
use Rattle.torus.specs.declared.step.Step.{Step}
use Rattle.command_schedule.specs.Line.{text_of}
use Rattle.command_schedule.specs.Output.{headed, heading_behind}
use Rattle.command_schedule.proofs.Attempts.{one_idle, one_moved}
use Rattle.command_schedule.proofs.Headed.{headed_none}
use Rattle.command_schedule.proofs.Outputs.{all_same, front_same, took_none}
use Rattle.command_schedule.proofs.output.put_attempt.Goals as goal

pub returns-in-Idle-clause-left : goal.returns-in-Idle-clause-left
returns-in-Idle-clause-left g c =
    ap (heading_behind c.args.heading) (sym (one_idle c.args.machine.now c.args.step c.step.result c.step.ensures.step.result c.in-Idle.is))

pub returns-in-Idle-clause-took : goal.returns-in-Idle-clause-took
returns-in-Idle-clause-took g c =
    took_none _ _ (ap (λ (xs : List Step). text_of (headed c.args.heading xs))
    (one_idle c.args.machine.now c.args.step c.step.result c.step.ensures.step.result c.in-Idle.is)
    ∙ ap text_of (headed_none c.args.heading))

pub returns-in_err-put_move-in-Moved-clause-took : goal.returns-in_err-put_move-in-Moved-clause-took
returns-in_err-put_move-in-Moved-clause-took g c =
    let p = err_from_is_err_and c.from_residual.result c.from_residual.ensures.1 in
    rw p.1 (front_same _ _ _ _ (ap (λ (xs : List Step). text_of (headed c.args.heading xs))
    (sym (one_moved c.args.machine.now c.args.step c.step.result c.step.ensures.step.result c.in-Moved.is))) c.in_err-put_move-in-Moved.ensures)

pub returns-in_ok-put_move-in-Moved-clause-left : goal.returns-in_ok-put_move-in-Moved-clause-left
returns-in_ok-put_move-in-Moved-clause-left g c =
    ap (heading_behind c.args.heading) (sym (one_moved c.args.machine.now c.args.step c.step.result c.step.ensures.step.result c.in-Moved.is))

pub returns-in_ok-put_move-in-Moved-clause-took : goal.returns-in_ok-put_move-in-Moved-clause-took
returns-in_ok-put_move-in-Moved-clause-took g c =
    all_same _ _ _ _ (ap (λ (xs : List Step). text_of (headed c.args.heading xs))
    (sym (one_moved c.args.machine.now c.args.step c.step.result c.step.ensures.step.result c.in-Moved.is))) c.in_ok-put_move-in-Moved.ensures
