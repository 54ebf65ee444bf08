use Rattle.std.proofs.lemmas.Bool.{MatchBool-at_true}
use Rattle.std.proofs.lemmas.List.Sorted.{non_decreasing_from_is_sorted}
use Rattle.trace_zones.proofs.rules.rises.Goals as goal

pub returns : goal.returns
returns c = λ t. MatchBool-at_true _ _ t (non_decreasing_from_is_sorted c.args.set.now _ c.is_sorted.ensures.cases)
