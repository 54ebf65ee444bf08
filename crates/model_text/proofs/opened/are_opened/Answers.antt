use Rattle.std.proofs.Common.{arith, refl, ℕ}
use borrow.Author.Count.{below_more}
use Rattle.model_text.specs.Traces.{IsOpenedAt}
use Rattle.model_text.proofs.opened.are_opened.Goals as goal

pub loop-p-preserved : goal.loop-p-preserved
loop-p-preserved c = record {
  opened = below_more (λ (p : ℕ). IsOpenedAt c.args.openings c.args.operations.now c.args.writes.now p) c.loop-p.p c.loop-p.invariant.opened
      (c.if-not-is_opened_at.ensures refl);
}

pub returns : goal.returns
returns c e = let done = c.loop-p-test.false in λ p low. c.loop-p.invariant.opened p (omega arith)
