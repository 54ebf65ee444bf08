use Rattle.network_rounds.specs.Choices.{choice_in_part}
use Rattle.network_rounds.proofs.Groups.{group_next}
use Rattle.network_rounds.proofs.choices.group_of.Goals as goal

pub loop-x-preserved : goal.loop-x-preserved
loop-x-preserved g c =
    group_next (choice_in_part c.args.kinds.now c.args.routers.now c.args.part) c.loop-x.x c.loop-x.group.items c.add_choice.new.group.items c.choice_at.result
    c.loop-x.invariant c.choice_at.ensures c.in_ok-add_choice.ensures
