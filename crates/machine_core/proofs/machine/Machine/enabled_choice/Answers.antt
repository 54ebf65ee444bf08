use Rattle.std.proofs.Common.{◌≤◌, ◌+◌, List, length, refl, sym, ◌∙◌, drop}
use Rattle.std.proofs.lemmas.List.{at_drop_all, at_drop_more}
use Rattle.torus.specs.declared.step.Choice.{Choice}
use Rattle.machine_parts.specs.Core.{attempts_of}
use Rattle.machine_core.specs.Rounds.{first_in}
use Rattle.machine_core.proofs.FirstEnabled.{skipped, found}
use Rattle.machine_core.proofs.machine.Machine.enabled_choice.Goals as goal

pub loop-choice-init : goal.loop-choice-init
loop-choice-init g c = refl

pub loop-choice-preserved : goal.loop-choice-preserved
loop-choice-preserved g c =
    sym (at_drop_more (λ (xs : List Choice). first_in c.args.self.now (attempts_of c.args.agent xs)) c.args.choices.now c.loop-choice.choice-index _
    c.loop-choice-test.true
    ∙ skipped c.args.self.now _ (attempts_of c.args.agent (drop (c.loop-choice.choice-index + 1) c.args.choices.now))
    (sym c.enabled.ensures ∙ c.if-enabled.false))
    ∙ c.loop-choice.invariant

pub returns-then-enabled : goal.returns-then-enabled
returns-then-enabled g c =
    sym (at_drop_more (λ (xs : List Choice). first_in c.args.self.now (attempts_of c.args.agent xs)) c.args.choices.now c.loop-choice.choice-index _
    c.loop-choice-test.true
    ∙ found c.args.self.now _ (attempts_of c.args.agent (drop (c.loop-choice.choice-index + 1) c.args.choices.now)) (sym c.enabled.ensures ∙ c.if-enabled.true))
    ∙ c.loop-choice.invariant

pub returns : goal.returns
returns g c =
    let end : length c.args.choices.now ≤ c.loop-choice.choice-index = c.loop-choice-test.false in
    sym (at_drop_all (λ (xs : List Choice). first_in c.args.self.now (attempts_of c.args.agent xs)) c.args.choices.now c.loop-choice.choice-index end)
    ∙ c.loop-choice.invariant
