use Rattle.std.proofs.Common.{◌≡◌, ◌++◌, drop, map}
use Rattle.network_adaptive.specs.Edges.{reply_edge}
use Rattle.network_adaptive.proofs.edges.with_replies.Given as goal

-- the edges so far, and those of the replies to come, are all
abbrev pub invariant-loop-reply : goal.invariant-loop-reply
invariant-loop-reply g l = l.all.items ++ map reply_edge (drop l.reply-index l.replies) ≡ l.edges ++ map reply_edge l.replies
