use Rattle.network_text.proofs.ListedRanges.{channel_put}
use Rattle.network_text.proofs.ranges.put_channels.Goals as goal

pub loop-k-preserved : goal.loop-k-preserved
loop-k-preserved g c =
    channel_put c.args.channels.now.items c.loop-k.channels.items c.push.new.self.items c.args.range.first c.loop-k.k c.loop-k.invariant
    c.in_ok-push.ensures.items
