use Rattle.std.proofs.Common.{◌≡◌, ◌++◌, None}
use Rattle.std.specs.Prelude.{slice_index_or}
use Rattle.network_text.specs.Lines.{first_lines}
use Rattle.network_traffic.specs.Written.{packet_line_at}
use Rattle.network_traffic.proofs.writing.put_packets.Given as goal

-- the lines so far
abbrev pub invariant-loop-k : goal.invariant-loop-k
invariant-loop-k g l = l.out.items ≡ l.fn.out.items
    ++ first_lines (packet_line_at l.packets (λ k. slice_index_or l.begun k None) (λ k. slice_index_or l.delivered k None)) l.k
