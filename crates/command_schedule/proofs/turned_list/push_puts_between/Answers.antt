use Rattle.std.proofs.Common.{◌≡◌, ◌+◌, ◌++◌, ℕ, List, ap, subst, ◌∙◌, arith}
use Rattle.torus.specs.declared.step.Step.{Step}
use Rattle.torus.specs.declared.step.Choice.TheVariants.{Put}
use Rattle.machine_core.specs.Rounds.{attempts_between}
use Rattle.command_schedule.proofs.Turned.{between_more, between_none}
use Rattle.command_schedule.proofs.turned_list.push_puts_between.Goals as goal

pub loop-input-init : goal.loop-input-init
loop-input-init g c = record {
  added = between_none (λ (k : ℕ). Put k) c.args.agent c.args.from c.args.steps.now.items;
  low = omega arith;
}

pub loop-input-preserved : goal.loop-input-preserved
loop-input-preserved g c = record {
  added = between_more (λ (k : ℕ). Put k) c.args.agent c.args.from c.loop-input.input c.args.steps.now.items c.loop-input.steps.items
      c.push.new.self.items c.loop-input.invariant.low c.loop-input.invariant.added c.in_ok-push.ensures.items;
  low = (let low = c.loop-input.invariant.low in omega (arith, low));
}

pub returns : goal.returns
returns g c =
    let low = c.loop-input.invariant.low in
    let end : c.loop-input.input ≡ c.args.to = omega (arith, low) in
    c.loop-input.invariant.added
    ∙ ap (λ (n : ℕ). c.args.steps.now.items ++ attempts_between (λ (k : ℕ). Put k) c.args.agent c.args.from n) end
