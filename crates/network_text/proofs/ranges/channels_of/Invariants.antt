use Rattle.std.proofs.Common.{◌≡◌, take}
use Rattle.network_text.specs.Ranges.{channels_of}
use Rattle.network_text.proofs.ranges.channels_of.Given as goal

-- those of the ranges so far
abbrev pub invariant-loop-range : goal.invariant-loop-range
invariant-loop-range g l = l.channels.items ≡ channels_of (take l.range-index l.ranges)
