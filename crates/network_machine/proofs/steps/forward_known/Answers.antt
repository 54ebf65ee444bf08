use Rattle.network_machine.proofs.Knowing.{still_owned, none_put, put_owned}
use Rattle.network_machine.proofs.steps.forward_known.Goals as goal

pub returns-then-not-forward_at-clause-owned : goal.returns-then-not-forward_at-clause-owned
returns-then-not-forward_at-clause-owned c =
    still_owned c.args.known.now c.args.channels.now c.forward_at.new.channels c.requires.owned
    (none_put c.args.channels.now c.forward_at.new.channels c.args.x c.args.y c.args.is_tail c.if-not-forward_at.ensures.owners) c.forward_at.ensures.count

pub returns-clause-owned : goal.returns-clause-owned
returns-clause-owned c =
    put_owned c.args.known.now c.args.channels.now c.forward_at.new.channels c.args.x c.args.y c.args.is_tail c.owned_after.result _ c.requires.many c.requires.owned
    c.forward_at.ensures.count c.if-not-forward_at.ensures.owners c.owned_after.ensures.others c.owned_after.ensures.here
