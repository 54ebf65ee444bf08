use Rattle.std.proofs.Common.{arith}
use Rattle.weak_models.proofs.Kept.{kept_or_not}
use Rattle.weak_models.proofs.preserved.rule_of.Goals as goal

pub returns-in-Some : goal.returns-in-Some
returns-in-Some c = record {
  own = record { processor = c.if-operations-x.false; before = c.if-x-y.false };
  first = grind (arith, c.if-not-uses_word.false, c.uses_word.ensures);
  second = grind (arith, c.if-not-uses_word-2.false, c.uses_word-else-not-uses_word.ensures);
  keeps = c.in-Some.ensures c.args.dependencies.now;
}

pub returns-in-Some-synchronization_rule_of : goal.returns-in-Some-synchronization_rule_of
returns-in-Some-synchronization_rule_of c = record {
  own = record { processor = c.if-operations-x.false; before = c.if-x-y.false };
  first = grind (arith, c.if-not-uses_word.false, c.uses_word.ensures);
  second = grind (arith, c.if-not-uses_word-2.false, c.uses_word-else-not-uses_word.ensures);
  keeps = c.in-Some-synchronization_rule_of.ensures c.args.dependencies.now c.args.writes.now;
}

pub returns : goal.returns
returns c = kept_or_not c.args.notes.now c.args.dependencies.now c.args.operations.now c.args.writes.now c.args.x c.args.y c.dependency_rule_of.result
    (record { processor = c.if-operations-x.false; before = c.if-x-y.false })
    (grind (arith, c.if-not-uses_word.false, c.uses_word.ensures))
    (grind (arith, c.if-not-uses_word-2.false, c.uses_word-else-not-uses_word.ensures))
    (c.in_default.ensures c.args.dependencies.now)
    (c.in_default-synchronization_rule_of.ensures c.args.dependencies.now c.args.writes.now)
    (c.dependency_rule_of.ensures c.args.notes.now)
