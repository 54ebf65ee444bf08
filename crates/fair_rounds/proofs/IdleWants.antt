-- The wants of choices that count nothing.
use Rattle.std.proofs.Common.{◌≡◌, ℕ, Some, arith, subst}
use Rattle.std.specs.Prelude.{◌&&◌, not, nat_lt}
use Rattle.std.proofs.lemmas.Option.{same_Some}
use Rattle.torus.specs.Shape.{tiles_of, dims_of}
use Rattle.torus.specs.declared.step.Choice.{Choice}
use Rattle.torus.specs.declared.step.Choice.TheVariants as choice
use Rattle.channel_number.specs.Ports.{port_count}
use Rattle.flit_buffer.specs.declared.want.Want.{Want}
use Rattle.flit_buffer.specs.declared.want.Want.TheVariants as want
use Rattle.one_order.specs.Following.{is_finished}
use Rattle.packet.specs.declared.kinds.Op.TheVariants.{Add}
use Rattle.tile.specs.Tile.{Design, TileState}
use Rattle.tile.specs.declared.agent.Agent.{Agent}
use Rattle.tile.specs.declared.agent.Agent.TheVariants.{Processor, Router, Bank}
use Rattle.tile.specs.Agents.{tile_wants}
use Rattle.core_laws.proofs.RouterWork.{if_so}
use Rattle.fair_rounds.specs.Charges.{charge}
use Rattle.fair_rounds.proofs.Rings.{IsIdle}

module _ (d : Design) (t : ℕ) where
  -- a want of a choice that counts nothing is a credit, a report or a look
  pub idle_want : (u : TileState) (a : Agent) (c : Choice) (w : Want) → charge a c ≡ 0 → tile_wants d t u a c ≡ Some w → IsIdle w
  idle_want u Processor choice.Send w none h = absurd (omega (arith, none))
  idle_want u Processor choice.Take w none h = absurd (omega (arith, none))
  idle_want u Processor choice.Credit w none h = subst IsIdle (same_Some (want.Credit 0) w h) tt
  idle_want u Processor choice.Done w none h =
      subst IsIdle (same_Some (want.Access d.words (Add 1)) w (if_so (is_finished u.processor.operations.following && not u.processor.reported) (Some (want.Access d.words (Add 1))) w h).1) tt
  idle_want u Processor choice.Look w none h =
      subst IsIdle (same_Some (want.Await d.words (tiles_of d.shape)) w
      (if_so (u.processor.reported && not u.processor.seen) (Some (want.Await d.words (tiles_of d.shape))) w h).1) tt
  idle_want u Processor (choice.TakeFrom i) w none h = absurd (cc)
  idle_want u Processor (choice.Put i) w none h = absurd (cc)
  idle_want u Processor (choice.CreditOf i) w none h = absurd (cc)
  idle_want u Processor choice.Serve w none h = absurd (cc)
  idle_want u Router (choice.TakeFrom i) w none h = absurd (omega (arith, none))
  idle_want u Router (choice.Put i) w none h = absurd (omega (arith, none))
  idle_want u Router (choice.CreditOf o) w none h =
      subst IsIdle (same_Some (want.Credit o) w (if_so (nat_lt o (port_count (dims_of d.shape))) (Some (want.Credit o)) w h).1) tt
  idle_want u Router choice.Send w none h = absurd (cc)
  idle_want u Router choice.Take w none h = absurd (cc)
  idle_want u Router choice.Credit w none h = absurd (cc)
  idle_want u Router choice.Done w none h = absurd (cc)
  idle_want u Router choice.Look w none h = absurd (cc)
  idle_want u Router choice.Serve w none h = absurd (cc)
  idle_want u Bank choice.Take w none h = absurd (omega (arith, none))
  idle_want u Bank choice.Serve w none h = absurd (omega (arith, none))
  idle_want u Bank choice.Send w none h = absurd (omega (arith, none))
  idle_want u Bank choice.Credit w none h = subst IsIdle (same_Some (want.Credit 0) w h) tt
  idle_want u Bank choice.Done w none h = absurd (cc)
  idle_want u Bank choice.Look w none h = absurd (cc)
  idle_want u Bank (choice.TakeFrom i) w none h = absurd (cc)
  idle_want u Bank (choice.Put i) w none h = absurd (cc)
  idle_want u Bank (choice.CreditOf i) w none h = absurd (cc)
