use Rattle.std.proofs.Common.{◌≡◌}
use Rattle.std.specs.Prelude.{drop}
use Rattle.dead_sets.specs.FillingFlags.{comes_by}
use Rattle.dead_sets.proofs.filling.comes_by.Given as goal

-- packets come over all channels just if they come to the last one over those behind it
abbrev pub invariant-loop-k : goal.invariant-loop-k
invariant-loop-k l =
    comes_by l.kinds l.joins l.choices l.base l.ways l.taken l.to l.at l.at l.before
    ≡ comes_by l.kinds l.joins l.choices l.base l.ways l.taken l.to l.at l.y (drop l.k l.before)
