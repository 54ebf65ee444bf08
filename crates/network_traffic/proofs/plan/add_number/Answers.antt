use Rattle.network_traffic.proofs.Numbers.{number_added, number_apart}
use Rattle.network_traffic.proofs.plan.add_number.Goals as goal

pub returns-in_ok-push : goal.returns-in_ok-push
returns-in_ok-push g c = λ old new channels is other here.
    number_added c.args.all.now old new channels c.args.x is other c.push.new.self c.index-all-x.result c.args.k c.if-x-all.true c.in_ok-push.ensures.items here

pub returns-else-x-all : goal.returns-else-x-all
returns-else-x-all g c = λ old new channels is other here. number_apart c.args.all.now old new channels c.args.x is other c.if-x-all.false
