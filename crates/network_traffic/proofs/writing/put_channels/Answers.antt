use Rattle.std.specs.Prelude.{slice_index}
use Rattle.network_text.proofs.Pieces.{line_put}
use Rattle.network_traffic.specs.Written.{channel_line_at}
use Rattle.network_traffic.proofs.writing.put_channels.Goals as goal

pub loop-x-preserved : goal.loop-x-preserved
loop-x-preserved g c =
    line_put c.args.out.now.items c.loop-x.out.items c.put_channel.new.out.items (channel_line_at (slice_index c.args.flits.now) (slice_index c.args.waited.now))
    c.loop-x.x c.loop-x.invariant c.in_ok-put_channel.ensures
