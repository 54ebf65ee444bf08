use Rattle.std.proofs.Common.{ap, ◌∙◌}
use Rattle.fabric.specs.Seats.{Knowing}
use Rattle.fabric.proofs.Seating.{looking_look, looking_grows}
use Rattle.fabric.proofs.seats.Fabric.probe.Goals as goal

pub look-requires-clause-own : goal.look-requires-clause-own
look-requires-clause-own g c = (ap (λ (k : Knowing). k.table) c.seat.view_is ∙ c.requires.0, ap (λ (k : Knowing). k.load) c.seat.view_is ∙ c.requires.1)

pub invariant_of-seat : goal.invariant_of-seat
invariant_of-seat g c = looking_look c.seat.inside.seat c.look.new.seat c.look.ensures.sees c.seat.invariant

pub returns-clause-later : goal.returns-clause-later
returns-clause-later g c = looking_grows c.seat.inside.seat c.look.new.seat c.look.ensures.sees _ c.seat.view_is c.seat.invariant
