use Rattle.std.proofs.Common.{arith, [], sym, ap, ◌∙◌, refl}
use Rattle.std.proofs.lemmas.List.{append-nil}
use Rattle.fabric_rule.specs.Groups.{GroupGoesOn, both, note}
use Rattle.fabric_rule.specs.Rule.{Learned}
use Rattle.fabric.specs.Seats.{Knowing, Origin}
use Rattle.fabric.proofs.Sharing.{notes}
use Rattle.fabric.proofs.Counting.{right_on}
use Rattle.fabric.proofs.Learning.{IsOn, looking_on, seated_on, knows_on, learned_at, from_one, from_other, bare_is, bare_goes, learns_said}
use Rattle.fabric.proofs.seats.Fabric.hear.Given.{Over}
use Rattle.fabric.proofs.seats.Fabric.hear.Goals as goal

pub split_seat-told-requires : goal.split_seat-told-requires
split_seat-told-requires g c = (
  ap (λ (k : Knowing). k.table) c.other.view_is ∙ c.requires.1.0 ∙ sym (ap (λ (k : Origin). k.table) c.self.view_is),
  omega arith,
  notes c.self.inside.table.shared.key.load _ _,
)

pub take_in-requires-clause-tables : goal.take_in-requires-clause-tables
take_in-requires-clause-tables g c = (
  ap (λ (k : Knowing). k.table) c.probe.view_is ∙ c.requires.0.0 ∙ sym (ap (λ (k : Origin). k.table) c.self.view_is),
  c.split_seat-told.ensures.3 ∙ ap (λ (k : Knowing). k.table) c.other.view_is ∙ c.requires.1.0 ∙ sym (ap (λ (k : Origin). k.table) c.self.view_is),
)

pub take_in-requires-clause-none_held : goal.take_in-requires-clause-none_held
take_in-requires-clause-none_held g c = ap (λ m. m.1) c.split_seat-told.ensures.4

learned_here : (g : Over) (c : goal.After-take_in g)
    → Learned (both c.probe.inside.seat.me.0 (note c.other.inside.seat.me.0)) (both c.probe.inside.seat.me.0 (note c.other.inside.seat.me.0)).groups
    c.take_in.new.seat.me.0
learned_here g c = learned_at _ _ _ (ap (λ m. both c.probe.inside.seat.me.0 m.0) c.split_seat-told.ensures.4) c.take_in.ensures.learned

probe_on : (g : Over) (c : goal.After-take_in g) → IsOn c.probe.inside.seat c.take_in.new.seat.me.0.run c.take_in.new.seat
probe_on g c = (
  c.take_in.ensures.seat.0,
  c.take_in.ensures.seat.1 ∙ c.probe.invariant.placed.no_slot,
  bare_is c.probe.inside.seat.me.0 (note c.other.inside.seat.me.0) c.take_in.new.seat.me.0 (learned_here g c) refl,
)

pub invariant_of-probe : goal.invariant_of-probe
invariant_of-probe g c = looking_on c.probe.inside.seat _ _ (probe_on g c) c.probe.invariant

pub returns-clause-probe : goal.returns-clause-probe
returns-clause-probe g c =
    let other = from_other c.probe.inside.seat.me.0 (note c.other.inside.seat.me.0) c.take_in.new.seat.me.0 _ (learned_here g c) in
    learns_said c.probe.inside.seat c.other.inside.seat c.take_in.new.seat _ _ c.probe.view_is c.other.view_is
    (knows_on c.probe.inside.seat c.take_in.new.seat _ (probe_on g c))
    (bare_goes _ _ _ c.probe.invariant.none_owned
    (from_one c.probe.inside.seat.me.0 (note c.other.inside.seat.me.0) c.take_in.new.seat.me.0 _ (learned_here g c))) (other.0, other.1)

-- the teller is as it was
pub invariant_of-other : goal.invariant_of-other
invariant_of-other g c =
    let on : IsOn c.other.inside.seat c.other.inside.seat.me.0.run c.split_seat-told.new.seat =
    (c.split_seat-told.ensures.0, ap (λ m. m.1) c.split_seat-told.ensures.2 ∙ c.other.invariant.0.placed.no_slot, ap (λ m. m.0) c.split_seat-told.ensures.2) in
    let go : GroupGoesOn c.other.inside.seat.me.0.groups c.other.inside.seat.me.0.run c.other.inside.seat.me.0.run =
    ([], sym (append-nil c.other.inside.seat.me.0.run), tt) in (
      seated_on _ c.other.inside.seat c.split_seat-told.new.seat c.other.inside.seat.me.0.run on go c.other.invariant.0,
      right_on c.other.inside.seat c.split_seat-told.new.seat c.other.inside.seat.me.0.run _ on go c.other.invariant.0.placed.accepted c.other.invariant.1,
    )
