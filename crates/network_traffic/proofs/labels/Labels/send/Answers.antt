use Rattle.std.proofs.Common.{sym, ap, ◌∙◌, length}
use Rattle.network_traffic.proofs.Pieces.{numbers_many}
use Rattle.network_traffic.proofs.labels.Labels.send.Goals as goal

pub next_number-next-requires : goal.next_number-next-requires
next_number-next-requires g c =
    ap length c.deref-2.ensures.value
    ∙ (c.requires.channels.begun ∙ sym (ap length c.deref.ensures.value
    ∙ numbers_many c.args.plan.now.numbers.items c.args.plan.now.packets.now _ c.requires.plan.numbers))
