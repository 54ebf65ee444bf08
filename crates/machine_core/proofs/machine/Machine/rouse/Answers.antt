use Rattle.machine_core.proofs.Rousing.{all_awake}
use Rattle.machine_core.proofs.machine.Machine.rouse.Goals as goal

pub invariant_of-self : goal.invariant_of-self
invariant_of-self g c =
    all_awake c.self.inside c.self.invariant c.rouse_all.new.self c.rouse_all.ensures c.rouse_all-2.new.self c.rouse_all-2.ensures.design
    c.rouse_all-2.ensures.flags

pub returns : goal.returns
returns g c = c.self.view_is
