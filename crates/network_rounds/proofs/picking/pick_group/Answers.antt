use Rattle.std.proofs.Common.{arith}
use Rattle.network_rounds.proofs.Lists.{group_turned, group_unturned}
use Rattle.network_rounds.proofs.picking.pick_group.Goals as goal

pub returns-then-turn-eq0-clause-adds : goal.returns-then-turn-eq0-clause-adds
returns-then-turn-eq0-clause-adds g c =
    let some = c.if-is_empty.false in
    let size = c.is_empty.ensures in
    group_unturned c.args.machine.now c.args.turn c.args.group.now _ _ c.if-turn-eq0.true (grind (arith, some, size)) c.pick_choices.ensures.adds

pub returns-clause-adds : goal.returns-clause-adds
returns-clause-adds g c =
    group_turned c.args.machine.now c.args.turn c.args.group.now _ _ _ c.pick_choices-picked.ensures.adds c.pick_choices-2.ensures.adds
