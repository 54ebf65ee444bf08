use Rattle.std.proofs.Common.{◌<◌, ◌∙◌, ap, arith, length, sym}
use Rattle.model_text.specs.InsideRows.{rows_now}
use Rattle.model_answer.specs.Parts.{is_kept_number}
use Rattle.model_answer.proofs.Parting.{row_kept, row_left}
use Rattle.model_answer.proofs.part.push_row.Goals.{then-is_kept_number+in_ok-add, else-is_kept_number}
use Rattle.model_answer.proofs.part.push_row.Goals as goal

pub loop-i-preserved : goal.loop-i-preserved
loop-i-preserved g c =
    let f = is_kept_number c.args.kept.now in
    let base = rows_now c.args.rows.now in
    let so_far = rows_now c.loop-i.rows in
    let low : c.loop-i.i < length c.args.numbers.now = omega arith in
    elim c.if-is_kept_number.branch [
      | then-is_kept_number+in_ok-add w ↦ row_kept f c.args.numbers.now c.loop-i.i base so_far (rows_now c.if-is_kept_number.rows) c.count-k.result
          c.count-k.ensures low (sym c.is_kept_number.ensures ∙ w.if-is_kept_number.true) c.loop-i.invariant
          (ap (λ r. rows_now r) w.rows-is ∙ w.in_ok-add.ensures)
      | else-is_kept_number w ↦ row_left f c.args.numbers.now c.loop-i.i base so_far (rows_now c.if-is_kept_number.rows)
          low (sym c.is_kept_number.ensures ∙ w.if-is_kept_number.false) c.loop-i.invariant
          (ap (λ r. rows_now r) w.rows-is)
    ]
