use Rattle.std.proofs.Common.{◌≡◌, ◌++◌}
use Rattle.std.specs.List.{range_with_len}
use Rattle.network_text.proofs.ranges.put_channels.Given as goal

-- the channels so far
abbrev pub invariant-loop-k : goal.invariant-loop-k
invariant-loop-k g l = l.channels.items ≡ l.fn.channels.items ++ range_with_len l.range.first l.k
