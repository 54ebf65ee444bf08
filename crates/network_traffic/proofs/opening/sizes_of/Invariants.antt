use Rattle.std.proofs.Common.{◌≡◌, take}
use Rattle.network_traffic.specs.Fates.{sizes_of}
use Rattle.network_traffic.proofs.opening.sizes_of.Given as goal

-- the packets so far
abbrev pub invariant-loop-k : goal.invariant-loop-k
invariant-loop-k g l = l.sizes.items ≡ sizes_of (take l.k l.packets)
