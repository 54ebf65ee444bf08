use Rattle.std.proofs.Common.{◌≡◌, false, take}
use Rattle.network_text.specs.Network.{has_reply}
use Rattle.network_text.proofs.reading.has_reply.Given as goal

abbrev pub invariant-loop-reply : goal.invariant-loop-reply
invariant-loop-reply l = has_reply (take l.reply-index l.replies) l.from l.to ≡ false
