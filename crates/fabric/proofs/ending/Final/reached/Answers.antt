use Rattle.std.proofs.Common.{subst}
use Rattle.fabric_rule.specs.Runs.{IsAcceptedLoad}
use Rattle.fabric.specs.Ending.{Ended}
use Rattle.fabric.proofs.Meetings.{every_run}
use Rattle.fabric.proofs.ending.Final.reached.Goals as goal

pub returns-clause-accepted : goal.returns-clause-accepted
returns-clause-accepted g c = subst (λ (e : Ended). IsAcceptedLoad e.load) c.self.view_is c.self.invariant.0.accepted

pub returns-clause-one_order : goal.returns-clause-one_order
returns-clause-one_order g c =
    every_run c.args.self.now.load c.args.self.now.run (subst (λ (e : Ended). IsAcceptedLoad e.load) c.self.view_is c.self.invariant.0.accepted)
