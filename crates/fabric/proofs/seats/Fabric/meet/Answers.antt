use Rattle.std.proofs.Common.{◌≡◌, arith, sym, ap, ◌∙◌, subst}
use Rattle.fabric_rule.specs.Runs.{IsAcceptedLoad}
use Rattle.fabric_rule.specs.View.{View}
use Rattle.fabric.specs.Seats.{Knowing, Origin, Learns, seat_knows}
use Rattle.fabric.proofs.Sharing.{halves}
use Rattle.fabric.proofs.Meetings.{lawful_view, met_first, swap_first}
use Rattle.fabric.proofs.Counting.{right_on}
use Rattle.fabric.proofs.Learning.{IsOn, seated_on, from_one, from_other, first_is, second_is, learns_on}
use Rattle.fabric.proofs.seats.Fabric.meet.Given.{Over}
use Rattle.fabric.proofs.seats.Fabric.meet.Goals as goal

pub take_in-requires-clause-tables : goal.take_in-requires-clause-tables
take_in-requires-clause-tables g c = (
  ap (λ (k : Knowing). k.table) c.one.view_is ∙ c.requires.0.0 ∙ sym (ap (λ (k : Origin). k.table) c.self.view_is),
  ap (λ (k : Knowing). k.table) c.other.view_is ∙ c.requires.1.0 ∙ sym (ap (λ (k : Origin). k.table) c.self.view_is),
)

pub take_in-requires-clause-none_held : goal.take_in-requires-clause-none_held
take_in-requires-clause-none_held g c = c.other.invariant.0.placed.no_slot

pub split_seat-other_seat-requires : goal.split_seat-other_seat-requires
split_seat-other_seat-requires g c = (
  c.take_in.ensures.seat.0 ∙ ap (λ (k : Knowing). k.table) c.one.view_is ∙ c.requires.0.0 ∙ sym (ap (λ (k : Origin). k.table) c.self.view_is),
  omega arith,
  halves c.self.inside.table.shared.key.load _ _,
)

same_loads : (g : Over) (c : goal.After-split_seat-other_seat g) → c.one.inside.seat.me.0.load ≡ c.other.inside.seat.me.0.load
same_loads g c = ap (λ (k : Knowing). k.load) c.one.view_is ∙ c.requires.0.1 ∙ sym c.requires.1.1 ∙ sym (ap (λ (k : Knowing). k.load) c.other.view_is)

first_on : (g : Over) (c : goal.After-split_seat-other_seat g) → IsOn c.one.inside.seat c.take_in.new.seat.me.0.run c.split_seat-other_seat.new.seat
first_on g c = (
  c.split_seat-other_seat.ensures.0 ∙ c.take_in.ensures.seat.0,
  ap (λ m. m.1) c.split_seat-other_seat.ensures.2 ∙ c.take_in.ensures.seat.1 ∙ c.one.invariant.0.placed.no_slot,
  ap (λ m. m.0) c.split_seat-other_seat.ensures.2
      ∙ first_is c.one.inside.seat.me.0 c.other.inside.seat.me.0 c.take_in.new.seat.me.0 c.take_in.ensures.learned c.one.invariant.0.one_group,
)

pub invariant_of-one : goal.invariant_of-one
invariant_of-one g c =
    let go = from_one c.one.inside.seat.me.0 c.other.inside.seat.me.0 c.take_in.new.seat.me.0 _ c.take_in.ensures.learned in (
      seated_on _ c.one.inside.seat _ _ (first_on g c) go c.one.invariant.0,
      right_on c.one.inside.seat c.split_seat-other_seat.new.seat c.take_in.new.seat.me.0.run _ (first_on g c) go c.one.invariant.0.placed.accepted c.one.invariant.1,
    )

second_on : (g : Over) (c : goal.After-split_seat-other_seat g) → IsOn c.other.inside.seat c.take_in.new.seat.me.0.run c.split_seat-other_seat.result
second_on g c = (
  c.split_seat-other_seat.ensures.3 ∙ c.take_in.ensures.seat.0 ∙ ap (λ (k : Knowing). k.table) c.one.view_is ∙ c.requires.0.0 ∙ sym c.requires.1.0
      ∙ sym (ap (λ (k : Knowing). k.table) c.other.view_is),
  ap (λ m. m.1) c.split_seat-other_seat.ensures.4,
  ap (λ m. m.0) c.split_seat-other_seat.ensures.4
      ∙ second_is c.one.inside.seat.me.0 c.other.inside.seat.me.0 c.take_in.new.seat.me.0 c.take_in.ensures.learned c.one.invariant.0.one_group
      (c.one.invariant.0.placed.live ∙ sym c.other.invariant.0.placed.live) (same_loads g c),
)

pub invariant_of-other : goal.invariant_of-other
invariant_of-other g c =
    let go = from_other c.one.inside.seat.me.0 c.other.inside.seat.me.0 c.take_in.new.seat.me.0 _ c.take_in.ensures.learned in (
      seated_on _ c.other.inside.seat _ _ (second_on g c) go c.other.invariant.0,
      right_on c.other.inside.seat c.split_seat-other_seat.result c.take_in.new.seat.me.0.run _ (second_on g c) go c.other.invariant.0.placed.accepted c.other.invariant.1,
    )

first_learns : (g : Over) (c : goal.After-split_seat-other_seat g) → Learns c.args.one c.args.other (seat_knows c.split_seat-other_seat.new.seat)
first_learns g c = learns_on c.one.inside.seat c.other.inside.seat c.split_seat-other_seat.new.seat _ _ c.take_in.new.seat.me.0.run _ (first_on g c)
    c.one.view_is c.other.view_is c.one.invariant.0.one_group
    (from_one c.one.inside.seat.me.0 c.other.inside.seat.me.0 c.take_in.new.seat.me.0 _ c.take_in.ensures.learned)
    (from_other c.one.inside.seat.me.0 c.other.inside.seat.me.0 c.take_in.new.seat.me.0 _ c.take_in.ensures.learned)

second_learns : (g : Over) (c : goal.After-split_seat-other_seat g) → Learns c.args.other c.args.one (seat_knows c.split_seat-other_seat.result)
second_learns g c = learns_on c.other.inside.seat c.one.inside.seat c.split_seat-other_seat.result _ _ c.take_in.new.seat.me.0.run _ (second_on g c)
    c.other.view_is c.one.view_is c.other.invariant.0.one_group
    (from_other c.one.inside.seat.me.0 c.other.inside.seat.me.0 c.take_in.new.seat.me.0 _ c.take_in.ensures.learned)
    (from_one c.one.inside.seat.me.0 c.other.inside.seat.me.0 c.take_in.new.seat.me.0 _ c.take_in.ensures.learned)

pub returns-clause-one : goal.returns-clause-one
returns-clause-one g c = first_learns g c

pub returns-clause-other : goal.returns-clause-other
returns-clause-other g c = second_learns g c

pub returns-clause-one_order : goal.returns-clause-one_order
returns-clause-one_order g c = (
  lawful_view c.one.inside.seat.me.0 c.split_seat-other_seat.new.seat.me.0 c.one.invariant.0.placed.accepted (ap (λ (v : View). v.load) (first_on g c).2),
  lawful_view c.other.inside.seat.me.0 c.split_seat-other_seat.result.me.0 c.other.invariant.0.placed.accepted (ap (λ (v : View). v.load) (second_on g c).2),
)

pub returns-clause-answers_first : goal.returns-clause-answers_first
returns-clause-answers_first g c =
    let one : IsAcceptedLoad c.args.one.load = subst IsAcceptedLoad (ap (λ (k : Knowing). k.load) c.one.view_is) c.one.invariant.0.placed.accepted in
    let other : IsAcceptedLoad c.args.other.load = subst IsAcceptedLoad (ap (λ (k : Knowing). k.load) c.other.view_is) c.other.invariant.0.placed.accepted in
    let same : c.args.other.load ≡ c.args.one.load = c.requires.1.1 ∙ sym c.requires.0.1 in (
      met_first c.args.one c.args.other (seat_knows c.split_seat-other_seat.new.seat) one same (first_learns g c),
      swap_first c.args.one c.args.other (seat_knows c.split_seat-other_seat.result)
          (met_first c.args.other c.args.one (seat_knows c.split_seat-other_seat.result) other (sym same) (second_learns g c)),
    )
