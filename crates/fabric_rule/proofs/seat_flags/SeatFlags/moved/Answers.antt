use Rattle.std.proofs.Common.{ℕ, refl, sym, ap, ◌∙◌, subst}
use Rattle.core_laws.specs.Routers.{ports_woken, router_moved}
use Rattle.machine_parts.specs.Ports.{flags_of}
use Rattle.fabric_rule.specs.Counted.{AreRight}
use Rattle.fabric_rule.proofs.Counting.{other_moved, router_right, no_processor, no_bank}
use Rattle.fabric_rule.proofs.seat_flags.SeatFlags.moved.Goals as goal

pub returns-in-Router : goal.returns-in-Router
returns-in-Router g c = record {
  right = λ load ok run between gs p right others mine here asks can.
      router_right load ok gs run between others _ _ (subst (AreRight load run gs) (sym c.self.view_is) right) refl refl c.router_moved.ensures.design
      c.args.step p c.args.op mine here asks can c.moved.ensures (sym c.agent_kind.ensures ∙ c.in-Router.is)
      (c.router_moved.ensures.flags
      ∙ ap (λ (t : ℕ). router_moved t c.args.step.choice (ports_woken c.self.inside.ports.design c.args.op (flags_of c.self.inside.ports))) c.agent_tile.ensures);
}

pub returns-in-Processor : goal.returns-in-Processor
returns-in-Processor g c = record {
  right = λ load ok run between gs p right others mine here asks can.
      other_moved load ok gs run between others _ _ (subst (AreRight load run gs) (sym c.self.view_is) right) refl refl c.wake.ensures.design
      c.args.step p c.args.op mine here asks can c.moved.ensures (no_processor c.args.step.agent (sym c.agent_kind.ensures ∙ c.in-Processor.is))
      c.wake.ensures.flags;
}

pub returns-in-Bank : goal.returns-in-Bank
returns-in-Bank g c = record {
  right = λ load ok run between gs p right others mine here asks can.
      other_moved load ok gs run between others _ _ (subst (AreRight load run gs) (sym c.self.view_is) right) refl refl c.wake-in-Bank.ensures.design
      c.args.step p c.args.op mine here asks can c.moved.ensures (no_bank c.args.step.agent (sym c.agent_kind.ensures ∙ c.in-Bank.is))
      c.wake-in-Bank.ensures.flags;
}
