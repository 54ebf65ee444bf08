-- The rounds stop where every script is finished, or where no more are allowed; who watches is told of each, and changes nothing of it.
use Rattle.std.proofs.Common.{◌≡◌, ℕ, ◌+◌, ◌++◌, [], List, refl, sym, ap, subst, ◌∙◌, arith}
use Rattle.torus.specs.declared.step.Step.{Step}
use Rattle.one_order.specs.Load.{Load}
use Rattle.core_laws.specs.Machine.{IsAfter}
use Rattle.fair_rounds.specs.declared.pacing.Pacer.{Pacer}
use Rattle.fair_rounds.specs.Guard.{Guarding}
use Rattle.fair_rounds.specs.Paces.{first_guard, guard_behind, paced_attempts, paced_guard}
use Rattle.fair_rounds.specs.Fewest.{AreFewestPaced, paced_round}
use Rattle.fair_rounds.proofs.Paced.{HasMade, as_allowed, enough, first_pacer, guard_more, none_made, one_more}
use Rattle.command_texts.specs.Telling.{AreCallsOfCommand}
use Rattle.command_texts.proofs.Telling.{hears_none, round_heard}
use Rattle.command_texts.proofs.in_rounds.make_rounds.Goals as goal

pub loop-before-init : goal.loop-before-init
loop-before-init g c = record {
  made = λ l start. none_made c.args.pace l c.args.machine.now start;
  told = λ l start. ([], refl, hears_none (g.P.Progress.heard c.args.progress.now));
  pacer = λ l start. c.new-pacer.ensures
      ∙ ap (λ (it : Guarding). record { pace = c.args.pace; guard = it }) (first_pacer c.args.pace l c.args.machine.now start);
}

pub loop-before-preserved : goal.loop-before-preserved
loop-before-preserved g c =
    let k : ℕ = c.loop-before.before in
    let more : (l : Load) → IsAfter l c.args.machine.now [] → HasMade c.args.pace l (k + 1) c.round.new.machine = λ l start.
    one_more c.args.pace l k c.loop-before.machine c.round.new.machine (c.loop-before.invariant.made l start)
    (sym c.if-finished.false ∙ c.finished.ensures.value)
    (λ steps h. subst (λ (p : Pacer). IsAfter l c.round.new.machine (steps ++ paced_attempts p.pace p.guard c.loop-before.machine k))
    (c.loop-before.invariant.pacer l start) (c.round.ensures.runs_on l steps h)) in
    record {
      made = more;
      told = λ l start.
          round_heard c.args.pace l k c.round.new.machine (g.P.Progress.heard c.args.progress.now) (g.P.Progress.heard c.loop-before.progress)
          (g.P.Progress.heard c.tell_round.new.progress)
          (c.loop-before.invariant.told l start) (more l start).after c.steps_decide_the_machine.ensures.named c.tell_round.ensures;
      pacer = λ l start.
          c.round.ensures.pacer
          ∙ (ap (λ (p : Pacer). record { pace = p.pace; guard = paced_guard p.pace p.guard c.loop-before.machine }) (c.loop-before.invariant.pacer l start)
          ∙ ap (λ (it : Guarding). record { pace = c.args.pace; guard = it })
          (guard_more c.args.pace l k c.loop-before.machine (c.loop-before.invariant.made l start).after));
    }

pub returns-then-finished : goal.returns-then-finished
returns-then-finished g c =
    let k : ℕ = c.loop-before.before in
    let finished = sym c.if-finished.true ∙ c.finished.ensures.value in
    let fewest : (l : Load) → IsAfter l c.args.machine.now [] → AreFewestPaced c.args.pace l c.args.rounds k =
    λ l start. enough c.args.pace l c.args.rounds k c.loop-before.machine (c.loop-before.invariant.made l start) c.loop-before-test.true finished in
    record {
      made = λ l start. record { rounds = k; fewest = fewest l start; after = (c.loop-before.invariant.made l start).after };
      told = λ l start. (let h = c.loop-before.invariant.told l start in record {
        heard = (h.0, record { rounds = k; fewest = fewest l start; each = h.1 }, h.2);
        back = c.held_rounds.ensures ∙ ap (λ (p : Pacer). p.guard.held) (c.loop-before.invariant.pacer l start);
      });
    }

pub returns : goal.returns
returns g c =
    let end : c.loop-before.before ≡ c.args.rounds = omega arith in
    let made : (l : Load) → IsAfter l c.args.machine.now [] → HasMade c.args.pace l c.args.rounds c.loop-before.machine =
    λ l start. subst (λ (k : ℕ). HasMade c.args.pace l k c.loop-before.machine) end (c.loop-before.invariant.made l start) in
    let fewest : (l : Load) → IsAfter l c.args.machine.now [] → AreFewestPaced c.args.pace l c.args.rounds c.args.rounds =
    λ l start. as_allowed c.args.pace l c.args.rounds c.loop-before.machine (made l start) in
    record {
      made = λ l start. record { rounds = c.args.rounds; fewest = fewest l start; after = (made l start).after };
      told = λ l start. (let h = c.loop-before.invariant.told l start in record {
        heard = (h.0, record { rounds = c.args.rounds; fewest = fewest l start; each = subst (λ (k : ℕ). AreCallsOfCommand c.args.pace l k h.0) end h.1 }, h.2);
        back = c.held_rounds-2.ensures
            ∙ (ap (λ (p : Pacer). p.guard.held) (c.loop-before.invariant.pacer l start)
            ∙ ap (λ (k : ℕ). (guard_behind c.args.pace l k).held) end);
      });
    }
