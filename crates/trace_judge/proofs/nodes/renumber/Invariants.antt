use Rattle.std.proofs.Common.{◌≡◌, take, List, Bool}
use Rattle.trace_judge.specs.Kept.{renumbered_all, AreRanks}
use Rattle.trace_judge.proofs.nodes.renumber.Given as goal

abbrev pub invariant-loop-n : goal.invariant-loop-n
invariant-loop-n g l = (marks : List Bool) → AreRanks l.ranks marks → l.later.items ≡ renumbered_all marks (take l.n l.branches)
