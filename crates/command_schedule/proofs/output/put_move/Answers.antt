-- The line of the move comes behind the heading, where there is one.
use Rattle.std.proofs.Common.{subst}
use Rattle.std.proofs.lemmas.Result.{err_from_is_err_and}
use Rattle.command_schedule.specs.declared.line.ScheduleLine.TheVariants.{Move, Round}
use Rattle.command_schedule.specs.Line.{line_text}
use Rattle.program_fault.specs.Done.{TookFront}
use Rattle.command_schedule.proofs.Headed.{one_bare, one_headed}
use Rattle.command_schedule.proofs.Outputs.{front_of_more, then_took, took_same}
use Rattle.command_schedule.proofs.output.put_move.Goals as goal

pub returns-in-None : goal.returns-in-None
returns-in-None g c =
    took_same _ _ (line_text (Move c.args.step)) _ c.put_line.result (one_bare c.args.heading c.args.step c.in-None.is) c.put_line.ensures

pub returns-in_ok-put_line-in-Some : goal.returns-in_ok-put_line-in-Some
returns-in_ok-put_line-in-Some g c =
    then_took _ _ _ (line_text (Round c.in-Some.number)) (line_text (Move c.args.step)) _ c.put_line-in-Some-2.result
    (one_headed c.args.heading c.in-Some.number c.args.step c.in-Some.is) c.in_ok-put_line-in-Some.ensures c.put_line-in-Some-2.ensures

pub returns-in_err-put_line-in-Some : goal.returns-in_err-put_line-in-Some
returns-in_err-put_line-in-Some g c =
    let p = err_from_is_err_and c.from_residual.result c.from_residual.ensures.1 in
    rw p.1 (subst (TookFront _ _) (one_headed c.args.heading c.in-Some.number c.args.step c.in-Some.is)
    (front_of_more _ _ (line_text (Round c.in-Some.number)) (line_text (Move c.args.step)) c.in_err-put_line-in-Some.ensures))
