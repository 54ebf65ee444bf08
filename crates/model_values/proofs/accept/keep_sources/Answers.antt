use Rattle.std.proofs.Common.{ℕ}
use borrow.Author.Count.{below_more}
use Rattle.model_values.specs.Placed.{KeepsSource}
use Rattle.model_values.proofs.accept.keep_sources.Goals as goal

pub loop-x-preserved : goal.loop-x-preserved
loop-x-preserved c = record {
  keeps = below_more (λ (x : ℕ). KeepsSource c.args.question.now.operations.now c.args.question.now.sources.now c.args.placed.now c.args.writes.now x) c.loop-x.x
      c.loop-x.invariant.keeps (c.keeps_source.ensures.yes c.if-not-keeps_source.false);
}
