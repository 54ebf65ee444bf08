use Rattle.std.proofs.Common.{[]}
use Rattle.network_rounds.proofs.Groups.{vectors_next}
use Rattle.network_traffic.specs.Plans.{numbers_of}
use Rattle.network_traffic.proofs.plan.no_numbers.Goals as goal

pub loop-x-preserved : goal.loop-x-preserved
loop-x-preserved g c =
    vectors_next (numbers_of []) c.loop-x._x c.loop-x.all.items c.push.new.self.items c.new.result c.loop-x.invariant c.in_ok-push.ensures.items
    c.new.ensures.items
