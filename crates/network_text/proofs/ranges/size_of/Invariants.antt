use Rattle.std.proofs.Common.{◌≡◌, take, length, min}
use Rattle.network_text.specs.Ranges.{channels_of}
use Rattle.network_text.proofs.ranges.size_of.Given as goal

-- how many channels the ranges so far have
abbrev pub invariant-loop-range : goal.invariant-loop-range
invariant-loop-range l = l.size ≡ min (length (channels_of (take l.range-index l.ranges))) 4194305
