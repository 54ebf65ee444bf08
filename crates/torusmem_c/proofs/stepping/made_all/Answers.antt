use Rattle.std.proofs.Common.{◌≡◌, ◌≤◌, ◌-◌, ◌+◌, ◌++◌, ℕ, List, length, sym, ◌∙◌, ap, subst, arith}
use Rattle.std.proofs.lemmas.List.{at_drop_all}
use Rattle.torus.specs.declared.step.Step.{Step}
use Rattle.core_laws.specs.Rounds.{moves_in}
use Rattle.core_laws.specs.Core.{step}
use Rattle.core_laws.specs.Machine.{Core, IsAfter, built_to, core_after}
use Rattle.core_laws.proofs.Machines.{after_steps}
use Rattle.torusmem_c.specs.declared.outcome.Code.TheVariants as code
use Rattle.torusmem_c.specs.declared.stepping.AttemptRecord.{AttemptRecord}
use Rattle.torusmem_c.specs.Outcome.{c_outcome}
use Rattle.torusmem_c.specs.Steps.{steps_named}
use Rattle.torusmem_c.proofs.Runs.{falls}
use Rattle.torusmem_c.proofs.stepping.made_all.Goals as goal

-- where the attempts lead
led : (c : goal.After-moves_left) → c.loop-it.machine.asked.core ≡ core_after c.args.machine.now.asked.core (steps_named c.args.attempts.now)
led c =
    let end : length c.args.attempts.now ≤ c.loop-it.it-index = c.loop-it-test.false in
    sym (at_drop_all (λ (xs : List AttemptRecord). core_after c.loop-it.machine.asked.core (steps_named xs)) c.args.attempts.now c.loop-it.it-index end)
    ∙ c.loop-it.invariant.led

-- the moves that are made and those that are left
made : (c : goal.After-moves_left)
    → c.moves_left.result + moves_in (step (built_to c.args.machine.now.asked.core)) c.args.machine.now.asked.core.state (steps_named c.args.attempts.now)
    ≡ c.moves_left-left.result
made c =
    let now : Core = c.args.machine.now.asked.core in
    let all : c.loop-it.machine.asked.core.moves_left + moves_in (step (built_to now)) now.state (steps_named c.args.attempts.now) ≡ now.moves_left
    = falls c.reached.ensures.load now c.loop-it.machine.asked.core c.reached.ensures.steps (steps_named c.args.attempts.now) c.reached.ensures.after (led c) in
    let first = c.moves_left-left.ensures in
    let last = c.moves_left.ensures in
    omega (arith, all, first, last)

pub overflow_sub-result : goal.overflow_sub-result
overflow_sub-result c = let all = made c in omega (arith, all)

pub returns : goal.returns
returns c =
    let now : Core = c.args.machine.now.asked.core in
    let steps : List Step = steps_named c.args.attempts.now in
    let all = made c in
    let moves : c.moves_left-left.result - c.moves_left.result ≡ moves_in (step (built_to now)) now.state steps = omega (arith, all) in
    record {
      spins = c.loop-it.invariant.spins;
      guard = c.loop-it.invariant.guard;
      core = record {
        state = led c;
        answer = ap (λ (n : ℕ). c_outcome code.Done n) moves;
        left = falls c.reached.ensures.load now c.loop-it.machine.asked.core c.reached.ensures.steps steps c.reached.ensures.after (led c);
        runs_on = λ l before h. subst (λ (x : Core). IsAfter l x (before ++ steps)) (sym (led c)) (after_steps l now before steps h);
      };
    }
