use Rattle.model_values.proofs.Looked.{left_more, left_read}
use Rattle.model_values.proofs.looking.find_open.Goals as goal
use Rattle.model_values.proofs.looking.find_open.Goals.{else-is_reader-via-then-is_reader+else-not-may_read, else-is_reader-via-else-is_reader}

pub loop-x-preserved : goal.loop-x-preserved
loop-x-preserved c = record {
  left = left_more c.args.valued.now c.args.sources.now c.loop-x.x c.loop-x.invariant.left (λ reads. elim c.else-is_reader.branch [
    | else-is_reader-via-then-is_reader+else-not-may_read w ↦ left_read c.args.valued.now c.args.sources.now c.loop-x.x w.number_at.result
        w.number_at.ensures (w.may_read.ensures.yes w.if-not-may_read.false)
    | else-is_reader-via-else-is_reader w ↦ absurd (c.is_reader.ensures.no w.if-is_reader.false reads)
  ]);
}
