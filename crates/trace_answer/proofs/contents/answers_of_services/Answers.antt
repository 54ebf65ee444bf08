use Rattle.trace_answer.specs.Contents.{answers_at}
use Rattle.trace_answer.proofs.Growing.{rows_more}
use Rattle.trace_answer.proofs.contents.answers_of_services.Goals as goal

pub loop-processor-preserved : goal.loop-processor-preserved
loop-processor-preserved g c =
    rows_more (answers_at c.args.services.now) c.loop-processor.all.items c.push.new.self.items c.loop-processor.processor c.in_ok-answers_at.field-0
    c.in_ok-answers_at.ensures c.in_ok-push.ensures.items c.loop-processor.invariant
