use Rattle.std.specs.Prelude.{codes}
use Rattle.std.proofs.KnownBytes.{Appends-trans}
use Rattle.std.proofs.lemmas.Result.{err_from_is_err_and}
use Rattle.trace_answer.specs.Texts.{lines_text}
use Rattle.trace_answer.proofs.Behind.{on_ok, on_err, front_of_first, front_of_second}
use Rattle.trace_answer.proofs.order.write_order.Goals as goal

pub returns-clause-ok : goal.returns-clause-ok
returns-clause-ok g c =
    on_ok c.put_all.result
    (λ h. Appends-trans _ _ _ (lines_text c.args.issued.now c.args.order.now) (codes "linearizable\n") c.in_ok-write_lines.ensures.ok h)
    c.put_all.ensures.ok

pub returns-clause-err : goal.returns-clause-err
returns-clause-err g c =
    on_err c.put_all.result
    (λ h. front_of_second _ _ _ (lines_text c.args.issued.now c.args.order.now) (codes "linearizable\n") c.in_ok-write_lines.ensures.ok h)
    c.put_all.ensures.err

pub returns-in_err-write_lines-clause-err : goal.returns-in_err-write_lines-clause-err
returns-in_err-write_lines-clause-err g c =
    let p = err_from_is_err_and c.from_residual.result c.from_residual.ensures.1 in
    rw p.1 (front_of_first _ _ (lines_text c.args.issued.now c.args.order.now) (codes "linearizable\n") c.in_err-write_lines.ensures.err)
