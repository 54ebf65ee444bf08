use Rattle.std.proofs.Common.{◌≡◌, ◌++◌}
use Rattle.std.specs.Prelude.{slice_index}
use Rattle.network_text.specs.Lines.{first_lines}
use Rattle.network_traffic.specs.Written.{channel_line_at}
use Rattle.network_traffic.proofs.writing.put_channels.Given as goal

-- the lines so far
abbrev pub invariant-loop-x : goal.invariant-loop-x
invariant-loop-x g l = l.out.items ≡ l.fn.out.items ++ first_lines (channel_line_at (slice_index l.flits) (slice_index l.waited)) l.x
