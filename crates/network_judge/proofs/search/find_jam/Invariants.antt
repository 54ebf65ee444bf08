use Rattle.network_judge.specs.Table.{table_of}
use Rattle.network_judge.specs.Replies.{AreReplies}
use Rattle.network_judge.specs.Cycles.{IsCycle}
use Rattle.network_judge.specs.Spans.{IsCircle, starts}
use Rattle.network_judge.proofs.search.find_jam.Given as goal

-- of a cycle they are a circle
abbrev pub invariant-loop-spans : goal.invariant-loop-spans
invariant-loop-spans g l = AreReplies (table_of l.kinds l.joins l.choices) l.replies
    → IsCycle (table_of l.kinds l.joins l.choices) l.replies l.links
    → IsCircle (table_of l.kinds l.joins l.choices) l.replies l.spans.items

abbrev pub decreases-loop-spans : goal.decreases-loop-spans
decreases-loop-spans g l = starts l.spans.items
