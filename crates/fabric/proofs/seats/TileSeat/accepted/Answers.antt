use Rattle.fabric.proofs.Meetings.{knows_lawful}
use Rattle.fabric.proofs.seats.TileSeat.accepted.Goals as goal

pub returns-clause-one_order : goal.returns-clause-one_order
returns-clause-one_order g c = knows_lawful c.self.inside.seat _ c.self.view_is c.self.invariant.0.placed.accepted
