use Rattle.std.proofs.Common.{take}
use Rattle.dead_sets.specs.Peeling.{AreCounts}
use Rattle.dead_sets.proofs.peeling.counts_of.Given as goal

-- the numbers so far are counted
abbrev pub invariant-loop-k : goal.invariant-loop-k
invariant-loop-k g l = AreCounts l.count (take l.k l.list) l.counts.items
