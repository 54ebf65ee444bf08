use Rattle.std.proofs.Common.{◌≡◌, ◌++◌, take}
use Rattle.network_text.specs.AllPairs.{every_join}
use Rattle.network_text.proofs.all_pairs.put_every_join.Given as goal

abbrev pub invariant-loop-from : goal.invariant-loop-from
invariant-loop-from g l = l.joins.items ≡ l.fn.joins.items ++ every_join (take l.from-index l.senders) l.receivers
