use Rattle.std.proofs.Common.{sym, ap, ◌∙◌, length}
use Rattle.network_traffic.proofs.Pieces.{numbers_many}
use Rattle.network_traffic.proofs.watch.note_fate.Goals as goal

pub next_number-begun-requires : goal.next_number-begun-requires
next_number-begun-requires g c =
    ap length c.deref-in-Send.ensures.value
    ∙ (c.requires.channels.begun ∙ sym (ap length c.deref.ensures.value
    ∙ numbers_many c.args.plan.now.numbers.items c.args.plan.now.packets.now _ c.requires.plan.numbers))
