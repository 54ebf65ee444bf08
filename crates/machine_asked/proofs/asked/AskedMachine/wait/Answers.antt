use Rattle.std.proofs.Common.{refl, sym, ◌∙◌, arith}
use Rattle.machine_asked.proofs.Waiting.{few_rounds, on_after, waited, waits_more, waits_none}
use Rattle.machine_asked.proofs.asked.AskedMachine.wait.Goals as goal

pub loop-self-init : goal.loop-self-init
loop-self-init g c = record { waited = waits_none c.args.self.now.core c.args.processor c.args.index; spins = refl; guard = refl }

pub loop-self-preserved : goal.loop-self-preserved
loop-self-preserved g c = record {
  waited = waits_more c.args.self.now.core c.loop-self.self.core c.round.new.self.core c.args.processor c.args.index c.loop-self.rounds
      c.loop-self.invariant.waited (sym c.is_settled.ensures ∙ c.loop-self-test.true) c.round.ensures.state;
  spins = c.round.ensures.spins ∙ c.loop-self.invariant.spins;
  guard = c.round.ensures.guard ∙ c.loop-self.invariant.guard;
}

pub loop-self-smaller : goal.loop-self-smaller
loop-self-smaller g c =
    let low = few_rounds c.reached.ensures.load c.args.self.now.core c.loop-self.self.core c.reached.ensures.steps c.args.processor c.args.index
    c.loop-self.rounds c.reached.ensures.after c.loop-self.invariant.waited (sym c.is_settled.ensures ∙ c.loop-self-test.true) in
    omega (arith, low)

pub overflow_add-rounds : goal.overflow_add-rounds
overflow_add-rounds g c =
    let low = few_rounds c.reached.ensures.load c.args.self.now.core c.loop-self.self.core c.reached.ensures.steps c.args.processor c.args.index
    c.loop-self.rounds c.reached.ensures.after c.loop-self.invariant.waited (sym c.is_settled.ensures ∙ c.loop-self-test.true) in
    omega (arith, low)

pub returns : goal.returns
returns g c =
    let made = c.loop-self.invariant.waited in
    record {
      state = made.made.so_far;
      needed = waited c.args.self.now.core c.loop-self.self.core c.args.processor c.args.index c.loop-self.rounds made
          (sym c.is_settled.ensures ∙ c.loop-self-test.false);
      runs_on = on_after c.args.self.now.core c.loop-self.self.core c.loop-self.rounds made.made.so_far;
      spins = c.loop-self.invariant.spins;
      guard = c.loop-self.invariant.guard;
    }
