use Rattle.machine_parts.specs.Inside.{awake_of}
use Rattle.machine_parts.proofs.AllSet.{none_to_set}
use Rattle.machine_parts.proofs.flags.WakeFlags.moved.Goals as goal

pub returns-then-self : goal.returns-then-self
returns-then-self g c =
    rw (← c.self.view_is)
    (none_to_set (awake_of c.self.inside).design c.self.inside.awake (c.self.invariant.all c.if-self.true) c.args.agent c.args.op)
