use Rattle.std.proofs.Common.{◌≡◌, ℕ, ◌≤◌, Some, None, [], length, refl, sym, inl, ap, ◌∙◌, set, subst, arith}
use Rattle.std.specs.Prelude.{slice_get}
use Rattle.std.proofs.lemmas.Grind.{common_steps}
use Rattle.std.proofs.lemmas.List.{append-nil}
use Rattle.std.proofs.lemmas.Option.{gets}
use Rattle.fabric_rule.specs.View.{View}
use Rattle.fabric.specs.Seats.{Knowing, with_run, Seated}
use Rattle.fabric.proofs.Meetings.{every_run, knows_lawful, lawful_view}
use Rattle.fabric.proofs.Refusing.{none_behind, none_there}
use Rattle.fabric.proofs.Seating.{seated_turn}
use Rattle.tile.specs.Agents.{agent_tile}
use Rattle.fabric.proofs.seats.Fabric.turn.Goals as goal

pub turn_tile-requires-clause-tile : goal.turn_tile-requires-clause-tile
turn_tile-requires-clause-tile g c =
    let at : slice_get c.seat.inside.slots.items (agent_tile c.args.step.agent) ≡ Some (Some c.in-Some.tile) = grind (arith, common_steps, gets) in
    (c.seat.invariant.0.tied.own _ _ at).1

pub invariant_of-seat-2 : goal.invariant_of-seat-2
invariant_of-seat-2 g c =
    let at : slice_get c.seat.inside.slots.items (agent_tile c.args.step.agent) ≡ Some (Some c.in-Some.tile) = grind (arith, common_steps, gets) in (
      subst (λ (n : ℕ). Seated (set c.seat.inside.slots.items n (Some c.turn_tile.new.tile)) c.turn_tile.new.seat) (sym c.agent_tile-number.ensures)
          (seated_turn _ c.seat.inside.seat c.turn_tile.new.seat _ c.in-Some.tile _ c.seat.invariant.0 at c.turn_tile.ensures.seat.0
          c.turn_tile.ensures.seat.1 c.turn_tile.ensures.tile c.turn_tile.ensures.rest),
      c.turn_tile.ensures.flags,
    )

pub returns-then-number-len-clause-one_order : goal.returns-then-number-len-clause-one_order
returns-then-number-len-clause-one_order g c = knows_lawful c.seat.inside.seat _ c.seat.view_is c.seat.invariant.0.placed.accepted

pub returns-in_default-clause-one_order : goal.returns-in_default-clause-one_order
returns-in_default-clause-one_order g c = every_run c.seat.inside.seat.me.0.load c.seat.inside.seat.me.0.run c.seat.invariant.0.placed.accepted

pub returns-then-not-has_choice-clause-one_order : goal.returns-then-not-has_choice-clause-one_order
returns-then-not-has_choice-clause-one_order g c = every_run c.seat.inside.seat.me.0.load c.seat.inside.seat.me.0.run c.seat.invariant.0.placed.accepted

pub returns-clause-one_order : goal.returns-clause-one_order
returns-clause-one_order g c = let t = c.turn_tile.ensures.rest in
    lawful_view c.seat.inside.seat.me.0 c.turn_tile.new.seat.me.0 c.seat.invariant.0.placed.accepted (ap (λ (v : View). v.load) t.same)

pub returns-then-number-len-clause-moved : goal.returns-then-number-len-clause-moved
returns-then-number-len-clause-moved g c = λ e. absurd (cc)

pub returns-then-number-len-clause-idle : goal.returns-then-number-len-clause-idle
returns-then-number-len-clause-idle g c = λ e. absurd (cc)

pub returns-then-number-len-clause-not_mine : goal.returns-then-number-len-clause-not_mine
returns-then-number-len-clause-not_mine g c =
    let n = c.seat.inside.slots.ok.0 in
    let past : length c.seat.inside.slots.items ≤ agent_tile c.args.step.agent = omega (arith, n) in
    ((λ _. inl (none_behind c.seat.inside.slots.items c.seat.inside.seat _ c.seat.view_is c.seat.invariant.0 _ past)), (λ _. refl))

pub returns-then-number-len-clause-unchanged : goal.returns-then-number-len-clause-unchanged
returns-then-number-len-clause-unchanged g c = λ _. refl

pub returns-then-number-len-clause-same : goal.returns-then-number-len-clause-same
returns-then-number-len-clause-same g c = refl

pub returns-then-number-len-clause-later : goal.returns-then-number-len-clause-later
returns-then-number-len-clause-later g c = ([], sym (append-nil c.args.seat.now.run))

pub returns-in_default-clause-moved : goal.returns-in_default-clause-moved
returns-in_default-clause-moved g c = λ e. absurd (cc)

pub returns-in_default-clause-idle : goal.returns-in_default-clause-idle
returns-in_default-clause-idle g c = λ e. absurd (cc)

pub returns-in_default-clause-not_mine : goal.returns-in_default-clause-not_mine
returns-in_default-clause-not_mine g c =
    let at : slice_get c.seat.inside.slots.items (agent_tile c.args.step.agent) ≡ Some None = grind (arith, common_steps, gets) in
    ((λ _. inl (none_there c.seat.inside.slots.items c.seat.inside.seat _ c.seat.view_is c.seat.invariant.0 _ at)), (λ _. refl))

pub returns-in_default-clause-unchanged : goal.returns-in_default-clause-unchanged
returns-in_default-clause-unchanged g c = λ _. c.seat.view_is

pub returns-in_default-clause-same : goal.returns-in_default-clause-same
returns-in_default-clause-same g c = ap (λ (k : Knowing). with_run k c.seat.inside.seat.me.0.run) c.seat.view_is

pub returns-in_default-clause-later : goal.returns-in_default-clause-later
returns-in_default-clause-later g c = ([], ap (λ (k : Knowing). k.run) c.seat.view_is ∙ sym (append-nil c.args.seat.now.run))

pub returns-then-not-has_choice-clause-moved : goal.returns-then-not-has_choice-clause-moved
returns-then-not-has_choice-clause-moved g c = λ e. absurd (cc)

pub returns-then-not-has_choice-clause-idle : goal.returns-then-not-has_choice-clause-idle
returns-then-not-has_choice-clause-idle g c = λ e. absurd (cc)

pub returns-then-not-has_choice-clause-unchanged : goal.returns-then-not-has_choice-clause-unchanged
returns-then-not-has_choice-clause-unchanged g c = λ _. c.seat.view_is

pub returns-then-not-has_choice-clause-same : goal.returns-then-not-has_choice-clause-same
returns-then-not-has_choice-clause-same g c = ap (λ (k : Knowing). with_run k c.seat.inside.seat.me.0.run) c.seat.view_is

pub returns-then-not-has_choice-clause-later : goal.returns-then-not-has_choice-clause-later
returns-then-not-has_choice-clause-later g c = ([], ap (λ (k : Knowing). k.run) c.seat.view_is ∙ sym (append-nil c.args.seat.now.run))

pub turn_tile-requires-clause-flags : goal.turn_tile-requires-clause-flags
turn_tile-requires-clause-flags g c = c.seat.invariant.1
