use Rattle.std.proofs.Common.{◌≡◌, map, take}
use Rattle.network_text.specs.Ranges.{range_of_one}
use Rattle.network_text.proofs.ranges.ranges_with.Given as goal

-- those of the channels so far
abbrev pub invariant-loop-x : goal.invariant-loop-x
invariant-loop-x g l = l.ranges.items ≡ map range_of_one (take l.x-index l.x-items)
