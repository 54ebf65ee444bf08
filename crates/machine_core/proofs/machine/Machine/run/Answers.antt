use Rattle.std.proofs.Common.{◌≡◌, ◌≤◌, ◌++◌, ◌+◌, length, sym, ◌∙◌, ap, subst, drop}
use Rattle.std.proofs.lemmas.List.{at_drop_all, at_drop_more}
use Rattle.machine_parts.specs.Machine.{Core, IsAfter, core_after}
use Rattle.machine_parts.proofs.Machines.{after_steps}
use Rattle.machine_core.proofs.machine.Machine.run.Goals as goal

pub loop-step-init : goal.loop-step-init
loop-step-init g c = ap (λ (x : Core). core_after x c.args.steps.now) c.rouse.ensures

pub loop-step-preserved : goal.loop-step-preserved
loop-step-preserved g c =
    let now : Core = c.loop-step.self in
    ap (λ (x : Core). core_after x (drop (c.loop-step.step-index + 1) c.args.steps.now)) c.step.ensures.step.change
    ∙ (sym (at_drop_more (core_after now) c.args.steps.now c.loop-step.step-index _ c.loop-step-test.true) ∙ c.loop-step.invariant)

pub returns-clause-state : goal.returns-clause-state
returns-clause-state g c =
    let end : length c.args.steps.now ≤ c.loop-step.step-index = c.loop-step-test.false in
    sym (at_drop_all (core_after c.loop-step.self) c.args.steps.now c.loop-step.step-index end) ∙ c.loop-step.invariant

pub returns-clause-runs_on : goal.returns-clause-runs_on
returns-clause-runs_on g c = λ l before h.
    let end : length c.args.steps.now ≤ c.loop-step.step-index = c.loop-step-test.false in
    let e : c.loop-step.self ≡ core_after c.args.self.now c.args.steps.now =
    sym (at_drop_all (core_after c.loop-step.self) c.args.steps.now c.loop-step.step-index end) ∙ c.loop-step.invariant in
    subst (λ (x : Core). IsAfter l x (before ++ c.args.steps.now)) (sym e) (after_steps l c.args.self.now before c.args.steps.now h)
