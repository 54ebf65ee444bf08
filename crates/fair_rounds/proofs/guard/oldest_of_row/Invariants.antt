use Rattle.std.proofs.Common.{◌≡◌, ℕ, List}
use Rattle.one_order.specs.Observed.{list_at}
use Rattle.fair_rounds.specs.Guard.{least_of_tags}
use Rattle.fair_rounds.proofs.guard.oldest_of_row.Given as goal

-- the least of the tags so far
abbrev pub invariant-loop-tag : goal.invariant-loop-tag
invariant-loop-tag g l = (all : List (List ℕ)) → list_at all l.processor ≡ l.since → l.oldest ≡ least_of_tags l.machine all l.processor l.tag l.fn.oldest
