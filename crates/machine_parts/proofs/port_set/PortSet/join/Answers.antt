use Rattle.machine_parts.proofs.PortSets.{joined_in}
use Rattle.machine_parts.proofs.port_set.PortSet.join.Goals as goal

pub returns : goal.returns
returns c =
    rw (← c.self.view_is, ← c.other.view_is) (λ t k. joined_in c.self.inside.words c.self.invariant c.args.tile c.requires c.other.inside.words t k)
