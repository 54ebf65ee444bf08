use Rattle.std.proofs.Common.{◌∙◌, sym}
use Rattle.network_rounds.proofs.Lists.{items_of}
use Rattle.network_rounds.proofs.Queues.{sender_added, sender_passed}
use Rattle.network_rounds.proofs.senders.senders_of.Goals.{then-not-is_empty+in_ok-push, else-not-is_empty}
use Rattle.network_rounds.proofs.senders.senders_of.Goals as goal

pub loop-x-preserved : goal.loop-x-preserved
loop-x-preserved g c = elim c.if-not-is_empty.branch [
  | then-not-is_empty+in_ok-push w ↦
      sender_added c.args.queues.now c.loop-x.x c.index-queues-x.result c.loop-x.senders.items c.if-not-is_empty.senders.items c.loop-x-test.true
      c.index-queues-x.is
      (sym c.is_empty.ensures ∙ w.if-not-is_empty.true) c.loop-x.invariant (items_of _ _ w.senders-is ∙ w.in_ok-push.ensures.items)
  | else-not-is_empty w ↦
      sender_passed c.args.queues.now c.loop-x.x c.index-queues-x.result c.loop-x.senders.items c.if-not-is_empty.senders.items c.loop-x-test.true
      c.index-queues-x.is
      (sym c.is_empty.ensures ∙ w.if-not-is_empty.false) c.loop-x.invariant (items_of _ _ w.senders-is)
]
