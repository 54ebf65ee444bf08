use Rattle.network_machine.proofs.Owners.{not_owned}
use Rattle.network_machine.proofs.output.owned_at.Goals as goal

pub returns-clause-none : goal.returns-clause-none
returns-clause-none c =
    not_owned c.args.channels.now c.args.x c.args.y c.index-channels-y.result c.index-channels-y.is (c.is_owned_by.ensures.no c.if-is_owned_by.false)
