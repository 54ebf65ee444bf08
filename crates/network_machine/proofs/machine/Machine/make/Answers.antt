use Rattle.std.proofs.Common.{sym, subst}
use Rattle.network_machine.specs.Moves.{MakesEvent}
use Rattle.network_machine.specs.Machine.{plain_network}
use Rattle.network_machine.proofs.machine.Machine.make.Goals as goal

pub returns-in-Send-clause-made : goal.returns-in-Send-clause-made
returns-in-Send-clause-made g c = λ number top depth s shows.
    subst (λ o. MakesEvent (plain_network c.args.self.now.table number top depth) s.lines o c.make_send.new.self.channels c.make_send.result) (sym c.in-Send.is)
    (c.make_send.ensures.made number top depth s shows)

pub returns-in-More-clause-made : goal.returns-in-More-clause-made
returns-in-More-clause-made g c = λ number top depth s shows.
    subst (λ o. MakesEvent (plain_network c.args.self.now.table number top depth) s.lines o c.make_more.new.self.channels c.make_more.result) (sym c.in-More.is)
    (c.make_more.ensures.made number top depth s shows)

pub returns-in-Take-clause-made : goal.returns-in-Take-clause-made
returns-in-Take-clause-made g c = λ number top depth s shows.
    subst (λ o. MakesEvent (plain_network c.args.self.now.table number top depth) s.lines o c.make_take.new.self.channels c.make_take.result) (sym c.in-Take.is)
    (c.make_take.ensures.made number top depth s shows)

pub returns-in-Put-clause-made : goal.returns-in-Put-clause-made
returns-in-Put-clause-made g c = λ number top depth s shows.
    subst (λ o. MakesEvent (plain_network c.args.self.now.table number top depth) s.lines o c.make_put.new.self.channels c.make_put.result) (sym c.in-Put.is)
    (c.make_put.ensures.made number top depth s shows)

pub returns-in-Accept-clause-made : goal.returns-in-Accept-clause-made
returns-in-Accept-clause-made g c = λ number top depth s shows.
    subst (λ o. MakesEvent (plain_network c.args.self.now.table number top depth) s.lines o c.make_accept.new.self.channels c.make_accept.result) (sym c.in-Accept.is)
    (c.make_accept.ensures.made number top depth s shows)

pub returns-in-Credit-clause-made : goal.returns-in-Credit-clause-made
returns-in-Credit-clause-made g c = λ number top depth s shows.
    subst (λ o. MakesEvent (plain_network c.args.self.now.table number top depth) s.lines o c.make_credit.new.self.channels c.make_credit.result) (sym c.in-Credit.is)
    (c.make_credit.ensures.made number top depth s shows)
