use Rattle.std.proofs.Common.{◌≡◌, None, replicate}
use Rattle.sentences.proofs.replies.no_replies.Given as goal

abbrev pub invariant-loop : goal.invariant-loop
invariant-loop g l = l.replies.items ≡ replicate l.counter None
