use Rattle.std.proofs.Common.{ℕ, ◌+◌, ◌*◌, sym, ◌∙◌, arith}
use Rattle.torus.specs.declared.step.Choice.TheVariants.{CreditOf}
use Rattle.machine_core.proofs.FirstEnabled.{port_start, port_skipped, port_found, port_past}
use Rattle.machine_core.proofs.Skips.{credits_asleep, passed}
use Rattle.machine_core.proofs.machine.Machine.enabled_credit.Goals as goal

pub loop-from-init : goal.loop-from-init
loop-from-init g c = record {
  same = port_start c.args.self.now (λ (k : ℕ). CreditOf k) (3 * c.args.tile + 1) c.args.ports;
  within = omega arith;
}

pub loop-from-preserved : goal.loop-from-preserved
loop-from-preserved g c =
    let below = c.in-Some.ensures.0 in
    record {
      same =
          sym (passed (λ (k : ℕ). CreditOf k) (3 * c.args.tile + 1) c.args.self.now c.args.ports c.loop-from.from c.in-Some.output (c.in-Some.ensures.1).low
          (omega (arith, below))
          (credits_asleep c.self.inside c.self.invariant c.args.self.now c.self.view_is c.args.tile c.loop-from.from c.in-Some.output (c.in-Some.ensures.1).before)
          ∙ port_skipped c.args.self.now (λ (k : ℕ). CreditOf k) (3 * c.args.tile + 1) c.args.ports c.in-Some.output below
          (sym c.enabled.ensures ∙ c.if-enabled.false))
          ∙ c.loop-from.invariant.same;
      within = omega (arith, below);
    }

pub returns-then-enabled : goal.returns-then-enabled
returns-then-enabled g c =
    let below = c.in-Some.ensures.0 in
    sym (passed (λ (k : ℕ). CreditOf k) (3 * c.args.tile + 1) c.args.self.now c.args.ports c.loop-from.from c.in-Some.output (c.in-Some.ensures.1).low
    (omega (arith, below))
    (credits_asleep c.self.inside c.self.invariant c.args.self.now c.self.view_is c.args.tile c.loop-from.from c.in-Some.output (c.in-Some.ensures.1).before)
    ∙ port_found c.args.self.now (λ (k : ℕ). CreditOf k) (3 * c.args.tile + 1) c.args.ports c.in-Some.output below
    (sym c.enabled.ensures ∙ c.if-enabled.true))
    ∙ c.loop-from.invariant.same

pub returns-in_default : goal.returns-in_default
returns-in_default g c =
    let within = c.loop-from.invariant.within in
    sym (passed (λ (k : ℕ). CreditOf k) (3 * c.args.tile + 1) c.args.self.now c.args.ports c.loop-from.from c.args.ports within (omega arith)
    (credits_asleep c.self.inside c.self.invariant c.args.self.now c.self.view_is c.args.tile c.loop-from.from c.args.ports c.in_default.ensures)
    ∙ port_past c.args.self.now (λ (k : ℕ). CreditOf k) (3 * c.args.tile + 1) c.args.ports c.args.ports (omega arith))
    ∙ c.loop-from.invariant.same

pub returns : goal.returns
returns g c =
    sym (port_past c.args.self.now (λ (k : ℕ). CreditOf k) (3 * c.args.tile + 1) c.args.ports c.loop-from.from (omega arith)) ∙ c.loop-from.invariant.same
