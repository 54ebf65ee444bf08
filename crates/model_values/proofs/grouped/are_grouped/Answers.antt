use Rattle.model_values.proofs.Grouping.{grouped_more, words_more}
use Rattle.model_values.proofs.grouped.are_grouped.Goals as goal

pub loop-y-preserved : goal.loop-y-preserved
loop-y-preserved c = record {
  processors = grouped_more c.args.valued.now.operations.now c.loop-y.y c.loop-y.invariant.processors (c.is_behind.ensures.yes c.if-not-is_behind.false);
  word = words_more c.args.valued.now.operations.now c.args.valued.now.words c.loop-y.y c.loop-y.invariant.word c.if-valued-y.false;
}
