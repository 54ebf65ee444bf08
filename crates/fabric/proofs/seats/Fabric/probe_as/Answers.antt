use Rattle.std.proofs.Common.{ap, ◌∙◌}
use Rattle.fabric_rule.specs.View.{View}
use Rattle.fabric.specs.Seats.{Knowing}
use Rattle.fabric.proofs.Counting.{seen_right}
use Rattle.fabric.proofs.Meetings.{lawful_view}
use Rattle.fabric.proofs.Seating.{seated_look, seated_grows}
use Rattle.fabric.proofs.seats.Fabric.probe_as.Goals as goal

pub look-requires-clause-own : goal.look-requires-clause-own
look-requires-clause-own g c = (ap (λ (k : Knowing). k.table) c.seat.view_is ∙ c.requires.0, ap (λ (k : Knowing). k.load) c.seat.view_is ∙ c.requires.1)

pub invariant_of-seat : goal.invariant_of-seat
invariant_of-seat g c = (
  seated_look c.seat.inside.seat c.look.new.seat c.look.ensures.sees _ c.seat.invariant.0,
  seen_right c.seat.inside.seat c.look.new.seat _ c.seat.invariant.0.placed.accepted c.look.ensures.sees c.seat.invariant.1,
)

pub returns-clause-later : goal.returns-clause-later
returns-clause-later g c = seated_grows c.seat.inside.seat c.look.new.seat c.look.ensures.sees _ c.seat.inside.slots.items c.seat.view_is c.seat.invariant.0

pub returns-clause-one_order : goal.returns-clause-one_order
returns-clause-one_order g c =
    lawful_view c.seat.inside.seat.me.0 c.look.new.seat.me.0 c.seat.invariant.0.placed.accepted (ap (λ (v : View). v.load) c.look.ensures.sees.view)
