use Rattle.std.proofs.Common.{arith, List, ℕ, ap, sym, ◌∙◌, subst}
use Rattle.fabric.specs.Seats.{Knowing, Origin}
use Rattle.fabric.specs.Ending.{ended, IsEnd}
use Rattle.fabric.proofs.Sharing.{notes}
use Rattle.fabric.proofs.Closing.{is_end, longest, was_longest, same_load}
use Rattle.fabric.proofs.Meetings.{lawful_view}
use Rattle.fabric.proofs.seats.Fabric.close.Goals as goal

pub split_seat-behind-requires : goal.split_seat-behind-requires
split_seat-behind-requires g c = (
  ap (λ (k : Knowing). k.table) c.seat.view_is ∙ c.requires.0.0 ∙ sym (ap (λ (k : Origin). k.table) c.self.view_is),
  omega arith,
  notes c.self.inside.table.shared.key.load _ _,
)

pub invariant_of-result : goal.invariant_of-result
invariant_of-result g c =
    let last = c.close_with-closed.ensures.values.2 in
    let loaded = c.requires.0.1 ∙ sym (ap (λ (k : Origin). k.load) c.self.view_is) in (
      subst (λ (row : List ℕ). IsEnd (ended c.split_seat-behind.result.me.0) c.seat.inside.slots.items row c.self.inside.base c.self.inside.torus
          c.self.inside.opening.items) last.2
          (is_end c.self.inside.table.shared.key.load c.seat.inside.slots.items c.seat.inside.seat c.split_seat-behind.new.seat c.split_seat-behind.result
          last.0 c.args.seat c.self.inside.base c.self.inside.torus c.self.inside.opening.items
          c.seat.view_is c.seat.invariant.0 loaded c.requires.1 (ap (λ m. m.0) c.split_seat-behind.ensures.2) (ap (λ m. m.0) c.split_seat-behind.ensures.4)
          last.1.0 last.1.1 c.self.invariant.0 c.self.invariant.6 c.self.invariant.7),
      c.close_with-closed.ensures.counts.1 ∙ c.self.invariant.3,
      c.close_with-closed.ensures.values.0,
      c.close_with-closed.ensures.counts.0 ∙ c.self.invariant.2
          ∙ sym (same_load c.seat.inside.seat c.split_seat-behind.result c.args.seat c.self.inside.table.shared.key.load c.seat.view_is loaded
          (ap (λ m. m.0) c.split_seat-behind.ensures.4)),
    )

pub returns-clause-longest : goal.returns-clause-longest
returns-clause-longest g c = longest c.args.seat c.requires.1

pub returns-clause-was_longest : goal.returns-clause-was_longest
returns-clause-was_longest g c =
    let last = c.close_with-closed.ensures.values.2 in
    was_longest c.self.inside.table.shared.key.load c.seat.inside.slots.items c.seat.inside.seat c.split_seat-behind.new.seat last.0 c.args.seat c.seat.view_is
    c.seat.invariant.0
    (c.requires.0.1 ∙ sym (ap (λ (k : Origin). k.load) c.self.view_is)) c.requires.1 (ap (λ m. m.0) c.split_seat-behind.ensures.2) last.1.0 last.1.1

pub returns-clause-one_order : goal.returns-clause-one_order
returns-clause-one_order g c =
    lawful_view c.seat.inside.seat.me.0 c.split_seat-behind.result.me.0 c.seat.invariant.0.placed.accepted (ap (λ m. m.0.load) c.split_seat-behind.ensures.4)
