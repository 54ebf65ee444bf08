use Rattle.std.proofs.Common.{List, [], ◌∷◌, ◌++◌, sym, ◌∙◌, ap}
use Rattle.machine_record.specs.declared.row.LineRow.{LineRow}
use Rattle.machine_record.specs.Reading.{rows_from}
use Rattle.machine_record.proofs.Pieces.{rows_push}
use Rattle.machine_record.proofs.reading.rows_from.Goals as goal

pub loop-index-preserved : goal.loop-index-preserved
loop-index-preserved g c =
    c.in_ok-push.ensures.items
    ∙ (ap (λ (xs : List LineRow). xs ++ c.row_at.result ∷ []) c.loop-index.invariant
    ∙ (ap (λ (x : LineRow). rows_from c.args.bytes.now c.args.at c.loop-index.index ++ x ∷ []) c.row_at.ensures
    ∙ sym (rows_push c.args.bytes.now c.args.at c.loop-index.index)))
