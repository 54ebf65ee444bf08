use Rattle.machine_core.proofs.FreshMachines.{count_after, shown_after, room_after}
use Rattle.machine_core.proofs.machine.Machine.into_parts.Goals as goal

pub returns-clause-count : goal.returns-clause-count
returns-clause-count g c = rw (← c.self.view_is) (count_after c.self.inside c.self.invariant)

pub returns-clause-shown : goal.returns-clause-shown
returns-clause-shown g c = rw (← c.self.view_is) (shown_after c.self.inside c.self.invariant)

pub returns-clause-rooms : goal.returns-clause-rooms
returns-clause-rooms g c = rw (← c.self.view_is) (room_after c.self.inside c.self.invariant)
