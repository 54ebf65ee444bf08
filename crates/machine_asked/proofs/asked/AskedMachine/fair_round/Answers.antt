-- The machine and its guard go on by the attempts of the round.
use Rattle.std.proofs.Common.{List}
use Rattle.torus.specs.declared.step.Step.{Step}
use Rattle.machine_core.specs.Guarded.{guarded_round}
use Rattle.machine_core.specs.Oldest.{oldest}
use Rattle.machine_asked.specs.Asked.{Asked}
use Rattle.machine_asked.specs.Inside.{asked_of}
use Rattle.machine_asked.proofs.Standing.{counts_on, depth_on, steps_on, tags_on}
use Rattle.machine_asked.proofs.asked.AskedMachine.fair_round.Goals as goal

pub invariant_of-self : goal.invariant_of-self
invariant_of-self g c =
    let v : Asked = asked_of c.self.inside in
    let made : List Step = guarded_round oldest c.round.result c.self.inside.machine in
    record {
      counts = counts_on v c.self.inside.counts.items c.round.new.machine made c.self.invariant.asked c.round.ensures.runs_on
          c.self.invariant.counts;
      depth = depth_on v c.self.inside.depth c.round.new.machine made c.self.invariant.asked c.round.ensures.runs_on
          c.self.invariant.depth;
      tags = tags_on v c.self.inside.tags c.round.new.machine made c.self.invariant.asked c.round.ensures.runs_on
          c.self.invariant.tags;
      asked = steps_on v c.round.new.self c.round.new.machine made c.self.invariant.asked c.round.ensures.runs_on;
    }
