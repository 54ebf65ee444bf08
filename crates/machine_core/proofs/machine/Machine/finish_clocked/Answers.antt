use Rattle.std.proofs.Common.{◌≡◌, ◌++◌, true, sym, ◌∙◌, ap, subst, arith}
use Rattle.machine_parts.specs.Machine.{Core, IsAfter, core_after, all_finished}
use Rattle.machine_parts.proofs.Machines.{after_steps}
use Rattle.machine_core.specs.Clocked.{clocked_rounds}
use Rattle.machine_core.proofs.ClockedRounds.{has_none, has_more, less_left, few_made, finished_run}
use Rattle.machine_core.proofs.machine.Machine.finish_clocked.Goals as goal

pub loop-self-init : goal.loop-self-init
loop-self-init g c = has_none c.args.self.now

pub loop-self-preserved : goal.loop-self-preserved
loop-self-preserved g c =
    has_more c.reached.ensures.after.0 c.args.self.now c.reached.ensures.after.1 c.reached.ensures.after.2 c.loop-self.self c.loop-self.rounds c.loop-self.invariant
    c.clocked_round.new.self (sym c.finished.ensures.value ∙ c.loop-self-test.true) c.clocked_round.ensures.moves c.clocked_round.ensures.state

pub loop-self-smaller : goal.loop-self-smaller
loop-self-smaller g c =
    let less = less_left c.reached.ensures.after.0 c.args.self.now c.reached.ensures.after.1 c.reached.ensures.after.2 c.loop-self.self c.loop-self.rounds c.loop-self.invariant
    c.clocked_round.new.self (sym c.finished.ensures.value ∙ c.loop-self-test.true) c.clocked_round.ensures.moves in
    omega (arith, less)

pub overflow_add-rounds : goal.overflow_add-rounds
overflow_add-rounds g c =
    let few = few_made c.reached.ensures.after.0 c.args.self.now c.reached.ensures.after.1 c.reached.ensures.after.2 c.loop-self.self c.loop-self.rounds
    c.loop-self.invariant in
    omega (arith, few)

pub returns : goal.returns
returns g c =
    let start : Core = c.args.self.now in
    let made = c.loop-self.invariant in
    let done : all_finished (core_after start (clocked_rounds start c.loop-self.rounds)).state ≡ true
    = ap (λ (x : Core). all_finished x.state) (sym made.so_far) ∙ (sym c.finished.ensures.value ∙ c.loop-self-test.false) in
    record {
      state = made.so_far;
      needed = record { done = done; least = made.busy };
      few = λ l steps h. let few = made.few in let moves = h.moves in omega (arith, few, moves);
      left = let few = made.few in omega (arith, few);
      runs_on = λ l before h. subst (λ (x : Core). IsAfter l x (before ++ clocked_rounds start c.loop-self.rounds)) (sym made.so_far)
          (after_steps l start before (clocked_rounds start c.loop-self.rounds) h);
      scripts = λ l before h. finished_run l start before h c.loop-self.rounds done;
    }
