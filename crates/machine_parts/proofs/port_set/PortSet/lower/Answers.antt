use Rattle.machine_parts.proofs.PortSets.{lowered_in}
use Rattle.machine_parts.proofs.port_set.PortSet.lower.Goals as goal

pub returns-then-port-lt32 : goal.returns-then-port-lt32
returns-then-port-lt32 c =
    rw (← c.self.view_is) (λ t k. lowered_in c.self.inside.words c.self.invariant c.args.tile c.requires c.args.port c.if-port-lt32.true t k)
