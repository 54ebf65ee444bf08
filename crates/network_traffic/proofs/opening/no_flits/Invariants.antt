use Rattle.std.proofs.Common.{◌≡◌, [], replicate}
use Rattle.network_traffic.specs.Labels.{labels_of}
use Rattle.network_traffic.proofs.opening.no_flits.Given as goal

-- none so far
abbrev pub invariant-loop-x : goal.invariant-loop-x
invariant-loop-x g l = labels_of l.flits.items ≡ replicate l._x []
