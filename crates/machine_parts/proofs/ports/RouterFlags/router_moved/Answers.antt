use Rattle.std.proofs.Common.{arith, refl, sym, ◌∙◌, ap}
use Rattle.std.proofs.lemmas.Grind.{common_steps}
use Rattle.torus.specs.declared.step.Choice.{Choice}
use Rattle.torus.specs.declared.step.Choice.TheVariants.{TakeFrom, Put, CreditOf}
use Rattle.core_laws.specs.Routers.{ports_woken, router_moved}
use Rattle.machine_parts.specs.Ports.{flags_of}
use Rattle.machine_parts.specs.InsidePorts.{awake_ports}
use Rattle.machine_parts.proofs.PortFlags.{taken, put, credited, others}
use Rattle.machine_parts.proofs.ports.RouterFlags.router_moved.Goals as goal

pub returns-in-TakeFrom-clause-flags : goal.returns-in-TakeFrom-clause-flags
returns-in-TakeFrom-clause-flags g c =
    taken c.args.tile (flags_of (awake_ports c.self.inside)) c.in-TakeFrom.input _ (λ u k. refl) c.raise-in-TakeFrom.ensures (λ u k. refl) c.raise.ensures
    ∙ (ap (router_moved c.args.tile (TakeFrom c.in-TakeFrom.input)) (ap flags_of c.self.view_is ∙ c.wake.ensures.flags)
    ∙ ap (λ (k : Choice). router_moved c.args.tile k (ports_woken c.args.self.now.design c.args.op (flags_of c.args.self.now))) (sym c.in-TakeFrom.is))

pub returns-in-Put-clause-flags : goal.returns-in-Put-clause-flags
returns-in-Put-clause-flags g c =
    put c.args.tile (flags_of (awake_ports c.self.inside)) c.in-Put.input _ c.raise-in-Put.ensures c.join.ensures (λ u k. refl) c.lower.ensures
    ∙ (ap (router_moved c.args.tile (Put c.in-Put.input)) (ap flags_of c.self.view_is ∙ c.wake.ensures.flags)
    ∙ ap (λ (k : Choice). router_moved c.args.tile k (ports_woken c.args.self.now.design c.args.op (flags_of c.args.self.now))) (sym c.in-Put.is))

pub returns-in-CreditOf-clause-flags : goal.returns-in-CreditOf-clause-flags
returns-in-CreditOf-clause-flags g c =
    credited c.args.tile (flags_of (awake_ports c.self.inside)) c.in-CreditOf.field-0 _ (λ u k. refl) c.join-in-CreditOf.ensures (λ u k. refl) (λ u k. refl)
    ∙ (ap (router_moved c.args.tile (CreditOf c.in-CreditOf.field-0)) (ap flags_of c.self.view_is ∙ c.wake.ensures.flags)
    ∙ ap (λ (k : Choice). router_moved c.args.tile k (ports_woken c.args.self.now.design c.args.op (flags_of c.args.self.now))) (sym c.in-CreditOf.is))

-- no other choice is a router's
pub returns-in_default : goal.returns-in_default
returns-in_default g c =
    record {
      design = c.wake.ensures.design;
      flags = c.wake.ensures.flags
          ∙ others c.args.tile (ports_woken c.args.self.now.design c.args.op (flags_of c.args.self.now)) c.args.choice c.in_default.not-TakeFrom
          c.in_default.not-Put c.in_default.not-CreditOf;
    }

-- only where all were awake, and then they are
pub invariant_of-self : goal.invariant_of-self
invariant_of-self g c = grind (arith, common_steps)

pub invariant_of-self-in-Put : goal.invariant_of-self-in-Put
invariant_of-self-in-Put g c = grind (arith, common_steps)

pub invariant_of-self-in-CreditOf : goal.invariant_of-self-in-CreditOf
invariant_of-self-in-CreditOf g c = grind (arith, common_steps)
