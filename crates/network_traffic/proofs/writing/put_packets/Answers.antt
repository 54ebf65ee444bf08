use Rattle.std.proofs.Common.{None}
use Rattle.std.specs.Prelude.{slice_index_or}
use Rattle.network_text.proofs.Pieces.{line_put}
use Rattle.network_traffic.specs.Written.{packet_line_at}
use Rattle.network_traffic.proofs.writing.put_packets.Goals as goal

pub loop-k-preserved : goal.loop-k-preserved
loop-k-preserved g c =
    line_put c.args.out.now.items c.loop-k.out.items c.put_packet.new.out.items
    (packet_line_at c.args.packets.now (λ k. slice_index_or c.args.begun.now k None) (λ k. slice_index_or c.args.delivered.now k None))
    c.loop-k.k c.loop-k.invariant c.in_ok-put_packet.ensures
