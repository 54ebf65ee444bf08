use Rattle.std.proofs.Common.{◌≡◌, ◌++◌, true, sym, ◌∙◌, ap, subst, arith}
use Rattle.machine_parts.specs.Machine.{Core, IsAfter, all_finished}
use Rattle.machine_parts.proofs.Machines.{after_steps}
use Rattle.machine_core.specs.Rounds.{rounds_of}
use Rattle.machine_core.proofs.Finishing.{finished_after, has_none, has_more, few_rounds, few_now, still_few, finished_run}
use Rattle.machine_core.proofs.machine.Machine.finish.Goals as goal

pub loop-self-init : goal.loop-self-init
loop-self-init g c = has_none c.args.self.now

pub loop-self-preserved : goal.loop-self-preserved
loop-self-preserved g c =
    has_more c.args.self.now c.loop-self.self c.round.new.self c.loop-self.rounds c.loop-self.invariant (sym c.finished.ensures.value ∙ c.loop-self-test.true)
    c.round.ensures.state

pub loop-self-smaller : goal.loop-self-smaller
loop-self-smaller g c =
    let low = still_few c.reached.ensures.after.0 c.args.self.now c.reached.ensures.after.1 c.reached.ensures.after.2 c.loop-self.self c.loop-self.rounds c.loop-self.invariant
    (sym c.finished.ensures.value ∙ c.loop-self-test.true) in
    omega (arith, low)

pub overflow_add-rounds : goal.overflow_add-rounds
overflow_add-rounds g c =
    let low = still_few c.reached.ensures.after.0 c.args.self.now c.reached.ensures.after.1 c.reached.ensures.after.2 c.loop-self.self c.loop-self.rounds c.loop-self.invariant
    (sym c.finished.ensures.value ∙ c.loop-self-test.true) in
    omega (arith, low)

pub returns : goal.returns
returns g c =
    let start : Core = c.args.self.now in
    let made = c.loop-self.invariant in
    let done : finished_after start c.loop-self.rounds ≡ true
    = ap (λ (x : Core). all_finished x.state) (sym made.so_far) ∙ (sym c.finished.ensures.value ∙ c.loop-self-test.false) in
    record {
      state = made.so_far;
      needed = record { done = done; least = made.busy };
      few = λ l steps h. few_rounds l start steps h c.loop-self.rounds made.busy;
      left = few_now c.reached.ensures.after.0 start c.reached.ensures.after.1 c.reached.ensures.after.2 c.loop-self.rounds made.busy;
      runs_on = λ l before h. subst (λ (x : Core). IsAfter l x (before ++ rounds_of start.shape c.loop-self.rounds)) (sym made.so_far)
          (after_steps l start before (rounds_of start.shape c.loop-self.rounds) h);
      scripts = λ l before h. finished_run l start before h c.loop-self.rounds done;
    }
