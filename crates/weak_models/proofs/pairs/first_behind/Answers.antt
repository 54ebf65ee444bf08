use Rattle.std.proofs.Common.{arith}
use Rattle.std.specs.Prelude.{slice_index}
use Rattle.weak_models.specs.Order.{IsBehindPair}
use Rattle.weak_models.proofs.Behind.{none_later, first_is}
use Rattle.weak_models.proofs.Below.{and_next}
use Rattle.weak_models.proofs.pairs.first_behind.Goals as goal

pub returns-then-operations-writes : goal.returns-then-operations-writes
returns-then-operations-writes c = none_later c.args.words c.args.notes.now c.args.operations.now c.args.writes.now c.args.w c.loop-p.p c.requires.trace
    c.loop-p.invariant.none (λ low. c.if-operations-writes.true)

pub returns-then-is_behind_pair : goal.returns-then-is_behind_pair
returns-then-is_behind_pair c = first_is c.args.words c.args.notes.now c.args.operations.now c.args.writes.now c.args.w c.loop-p.p c.requires.trace
    c.loop-p.invariant.none c.loop-p-test.true (c.is_behind_pair.ensures.yes c.if-is_behind_pair.true)

pub loop-p-preserved : goal.loop-p-preserved
loop-p-preserved c = record {
  none = and_next (λ q. IsBehindPair c.args.notes.now c.args.operations.now c.args.w (slice_index c.args.writes.now q) → ⊥) c.loop-p.p
      c.loop-p.invariant.none (c.is_behind_pair.ensures.no c.if-is_behind_pair.false);
}

pub returns : goal.returns
returns c = none_later c.args.words c.args.notes.now c.args.operations.now c.args.writes.now c.args.w c.loop-p.p c.requires.trace c.loop-p.invariant.none
    (λ low. (let over = c.loop-p-test.false in omega (arith, low, over)))
