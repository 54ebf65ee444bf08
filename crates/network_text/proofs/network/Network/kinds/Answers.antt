use Rattle.network_judge.specs.Replies.{AreReplies}
use Rattle.network_text.specs.Network.{NetworkSpec}
use Rattle.std.proofs.Common.{subst}
use Rattle.network_text.proofs.network.Network.kinds.Goals as goal

pub returns-clause-replies : goal.returns-clause-replies
returns-clause-replies g c = subst (λ (n : NetworkSpec). AreReplies n.table n.replies) c.self.view_is c.self.invariant.replies
