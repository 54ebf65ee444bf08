-- Each fair round is one more, until every script is finished or no more are allowed.
use Rattle.std.proofs.Common.{◌≡◌, ℕ, false, true, sym, ap, subst, ◌∙◌, arith}
use Rattle.machine_parts.specs.Machine.{Core, all_finished}
use Rattle.machine_asked.specs.Asked.{AreFewestFair, Asked, fair_rounds_made, fair_rounds_of}
use Rattle.machine_asked.proofs.FairRounds.{HasMadeFair, fewest_made, none_made, one_more}
use Rattle.machine_asked.proofs.asked.AskedMachine.fair_rounds.Goals as goal

pub loop-before-init : goal.loop-before-init
loop-before-init g c = none_made c.args.self.now

pub loop-before-preserved : goal.loop-before-preserved
loop-before-preserved g c =
    one_more c.args.self.now c.loop-before.self c.fair_round.new.self c.loop-before.before c.loop-before.invariant
    (ap (λ (x : Core). all_finished x.state) (sym c.machine.ensures) ∙ (sym c.finished.ensures.value ∙ c.if-finished.false))
    c.fair_round.ensures.made c.fair_round.ensures.moves c.fair_round.ensures.live c.fair_round.ensures.runs_on

pub returns-then-finished : goal.returns-then-finished
returns-then-finished g c =
    let made : HasMadeFair c.args.self.now c.loop-before.self c.loop-before.before = c.loop-before.invariant in
    let below = c.loop-before-test.true in
    let few = made.few in
    record {
      made = made.so_far;
      fewest = fewest_made c.args.self.now c.loop-before.self c.args.most c.loop-before.before made (omega (arith, below))
          (λ under. ap (λ (x : Core). all_finished x.state) (sym c.machine.ensures) ∙ (sym c.finished.ensures.value ∙ c.if-finished.true));
      left = omega (arith, few);
      runs_on = made.on;
    }

pub returns : goal.returns
returns g c =
    let end : c.loop-before.before ≡ c.args.most = omega arith in
    let made : HasMadeFair c.args.self.now c.loop-before.self c.args.most =
    subst (λ (k : ℕ). HasMadeFair c.args.self.now c.loop-before.self k) end c.loop-before.invariant in
    let few = made.few in
    record {
      made = made.so_far;
      fewest = fewest_made c.args.self.now c.loop-before.self c.args.most c.args.most made (omega arith) (λ under. absurd (omega (arith, under)));
      left = omega (arith, few);
      runs_on = made.on;
    }
