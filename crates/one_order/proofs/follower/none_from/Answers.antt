use Rattle.one_order.proofs.Kept.{is_empty-drop}
use Rattle.one_order.proofs.follower.none_from.Goals as goal

pub returns : goal.returns
returns c = is_empty-drop c.args.lines.now c.args.at c.requires
