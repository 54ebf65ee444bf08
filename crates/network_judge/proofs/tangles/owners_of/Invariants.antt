use Rattle.network_judge.specs.Table.{table_of}
use Rattle.network_judge.specs.Spans.{AreOwners}
use Rattle.network_judge.proofs.tangles.owners_of.Given as goal

-- the channels of the first spans have owners
abbrev pub invariant-loop-place : goal.invariant-loop-place
invariant-loop-place g l = AreOwners (table_of l.kinds l.joins l.choices) l.spans l.place l.owners.items
