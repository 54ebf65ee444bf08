-- The last line says whether every script is finished.
use Rattle.std.proofs.Common.{Bool, ap}
use Rattle.std.proofs.lemmas.Result.{err_from_is_err_and}
use Rattle.command_schedule.specs.declared.line.ScheduleLine.TheVariants.{End}
use Rattle.command_schedule.specs.Line.{line_text}
use Rattle.command_schedule.proofs.Outputs.{all_same, front_same}
use Rattle.command_schedule.proofs.output.put_end.Goals as goal

pub returns-in_err-put_line-clause-took : goal.returns-in_err-put_line-clause-took
returns-in_err-put_line-clause-took g c =
    let p = err_from_is_err_and c.from_residual.result c.from_residual.ensures.1 in
    rw p.1 (front_same _ _ _ _ (ap (λ (b : Bool). line_text (End b)) c.finished-finished.ensures.value) c.in_err-put_line.ensures)

pub returns-clause-took : goal.returns-clause-took
returns-clause-took g c = all_same _ _ _ _ (ap (λ (b : Bool). line_text (End b)) c.finished-finished.ensures.value) c.in_ok-put_line.ensures
