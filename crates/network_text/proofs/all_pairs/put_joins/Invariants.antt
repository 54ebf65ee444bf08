use Rattle.std.proofs.Common.{◌≡◌, ◌++◌, take}
use Rattle.network_text.specs.AllPairs.{joins_from}
use Rattle.network_text.proofs.all_pairs.put_joins.Given as goal

abbrev pub invariant-loop-to : goal.invariant-loop-to
invariant-loop-to g l = l.joins.items ≡ l.fn.joins.items ++ joins_from (take l.to-index l.receivers) l.from
