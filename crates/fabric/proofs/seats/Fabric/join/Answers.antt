use Rattle.std.proofs.Common.{arith, ◌⊎◌, sym, ap, ◌∙◌, subst}
use Rattle.fabric_rule.specs.View.{View}
use Rattle.fabric_rule.specs.Groups.{Extends}
use Rattle.fabric_rule.specs.Runs.{IsAcceptedLoad}
use Rattle.fabric.specs.Seats.{Knowing, Origin, seat_knows}
use Rattle.fabric.proofs.Meetings.{lawful_view, joined_first}
use Rattle.fabric.proofs.Sharing.{joins, merges}
use Rattle.fabric.proofs.Counting.{joined_right, learned_joined}
use Rattle.fabric.proofs.Learning.{from_one, from_other, seated_joined, joins_said, two_begins}
use Rattle.fabric.proofs.seats.Fabric.join.Goals as goal

pub join_seat-requires : goal.join_seat-requires
join_seat-requires g c = (
  ap (λ (k : Knowing). k.table) c.one.view_is ∙ c.requires.0.0 ∙ sym (ap (λ (k : Origin). k.table) c.self.view_is),
  ap (λ (k : Knowing). k.table) c.other.view_is ∙ c.requires.1.0 ∙ sym (ap (λ (k : Origin). k.table) c.self.view_is),
  c.other.invariant.0.placed.no_slot,
  omega arith,
  joins c.self.inside.table.shared.key.load _ _ _ _,
)

pub load-requires : goal.load-requires
load-requires g c = (
  c.join_seat.ensures.0 ∙ ap (λ (k : Knowing). k.table) c.one.view_is ∙ c.requires.0.0 ∙ sym (ap (λ (k : Origin). k.table) c.self.view_is),
  omega arith,
  merges c.self.inside.table.shared.key.load _ _ _ c.join_seat.new.seat.me,
)

pub invariant_of-result : goal.invariant_of-result
invariant_of-result g c =
    let l = learned_joined _ _ _ (ap (λ m. m.0) c.join_seat.ensures.2) c.load.ensures.2.0 in (
      seated_joined _ _ c.mix-slots.result.items c.one.inside.seat c.other.inside.seat c.load.new.seat c.one.invariant.0 c.other.invariant.0
          (ap (λ (k : Knowing). k.load) c.one.view_is ∙ c.requires.0.1 ∙ sym c.requires.1.1 ∙ sym (ap (λ (k : Knowing). k.load) c.other.view_is))
          l (c.load.ensures.0 ∙ c.join_seat.ensures.0) (c.load.ensures.2.1 ∙ ap (λ m. m.1) c.join_seat.ensures.2 ∙ c.one.invariant.0.placed.no_slot)
          c.mix-slots.ensures.len c.mix-slots.ensures.slots,
      joined_right c.one.inside.seat.me.0 c.other.inside.seat.me.0 c.load.new.seat.me.0 _ _ l c.rouse.ensures.right c.one.invariant.1,
    )

pub returns-clause-both : goal.returns-clause-both
returns-clause-both g c =
    let l = learned_joined _ _ _ (ap (λ m. m.0) c.join_seat.ensures.2) c.load.ensures.2.0 in
    joins_said c.one.inside.seat c.other.inside.seat c.load.new.seat _ _ c.one.view_is c.other.view_is c.one.invariant.0.one_group
    c.other.invariant.0.one_group l (c.load.ensures.0 ∙ c.join_seat.ensures.0)

pub returns-clause-ordered : goal.returns-clause-ordered
returns-clause-ordered g c =
    let l = learned_joined _ _ _ (ap (λ m. m.0) c.join_seat.ensures.2) c.load.ensures.2.0 in
    let a = from_one c.one.inside.seat.me.0 c.other.inside.seat.me.0 c.load.new.seat.me.0 _ l in
    let b = from_other c.one.inside.seat.me.0 c.other.inside.seat.me.0 c.load.new.seat.me.0 _ l in
    subst (λ (k : Knowing). Extends k.run c.args.other.run ⊎ Extends c.args.other.run k.run) c.one.view_is
    (subst (λ (k : Knowing). Extends c.one.inside.seat.me.0.run k.run ⊎ Extends k.run c.one.inside.seat.me.0.run) c.other.view_is
    (two_begins _ a.0 _ b.0 (sym a.1 ∙ b.1)))

pub returns-clause-one_order : goal.returns-clause-one_order
returns-clause-one_order g c =
    let l = learned_joined _ _ _ (ap (λ m. m.0) c.join_seat.ensures.2) c.load.ensures.2.0 in
    lawful_view c.one.inside.seat.me.0 c.load.new.seat.me.0 c.one.invariant.0.placed.accepted (ap (λ (v : View). v.load) l.view)

pub returns-clause-answers_first : goal.returns-clause-answers_first
returns-clause-answers_first g c =
    let l = learned_joined _ _ _ (ap (λ m. m.0) c.join_seat.ensures.2) c.load.ensures.2.0 in
    let one : IsAcceptedLoad c.args.one.load = subst IsAcceptedLoad (ap (λ (k : Knowing). k.load) c.one.view_is) c.one.invariant.0.placed.accepted in
    joined_first c.args.one c.args.other (seat_knows c.load.new.seat) one (c.requires.1.1 ∙ sym c.requires.0.1) (joins_said c.one.inside.seat c.other.inside.seat c.load.new.seat _ _ c.one.view_is c.other.view_is c.one.invariant.0.one_group c.other.invariant.0.one_group l (c.load.ensures.0 ∙ c.join_seat.ensures.0))
