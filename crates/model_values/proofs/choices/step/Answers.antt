use Rattle.std.proofs.Common.{◌<◌, ℕ, List, false, length, subst}
use Rattle.std.specs.Prelude.{IfOk}
use Rattle.model_values.specs.declared.looking.Seen.TheVariants.{Answer, Refuted, Open}
use Rattle.model_values.specs.ChoiceSteps.{IsStep, TakesNext}
use Rattle.model_values.specs.Values.{IsReader}
use Rattle.model_values.proofs.Taking.{none_may, seen_at}
use Rattle.model_values.proofs.choices.step.Goals as goal

pub refute-requires : goal.refute-requires
refute-requires g c = record {
  none = seen_at {A = g.row.A.Denot} c.args.rules.now c.args.valued.now c.deref.result.now c.args.path.now.items c.args.left c.in_ok-verdict.field-0
      (Refuted c.in-Refuted.depth) c.deref.ensures.value c.in-Refuted.is c.in_ok-verdict.ensures;
}

pub refute-requires-in-Open : goal.refute-requires-in-Open
refute-requires-in-Open g c =
    let v = c.args.valued.now in
    let x : ℕ = c.in-Open.x in
    let seen : (x < length v.operations.now) × IsReader v.operations.now x =
    seen_at {A = g.row.A.Denot} c.args.rules.now v c.deref.result.now c.args.path.now.items c.args.left c.in_ok-verdict.field-0
    (Open x) c.deref.ensures.value c.in-Open.is c.in_ok-verdict.ensures in
    let taken : TakesNext v c.args.path.now.items c.take_next.new.path.items x false =
    subst (λ b. TakesNext v c.args.path.now.items c.take_next.new.path.items x b) c.if-branch.false c.in_ok-take_next-in-Open.ensures in
    record { none = none_may c.args.rules.now v _ x seen.0 seen.1 taken.1 }

pub returns-in-Answer : goal.returns-in-Answer
returns-in-Answer g c = seen_at {A = g.row.A.Denot} c.args.rules.now c.args.valued.now c.deref.result.now c.args.path.now.items c.args.left
    c.in_ok-verdict.field-0 (Answer c.in-Answer.verdict) c.deref.ensures.value c.in-Answer.is c.in_ok-verdict.ensures

pub returns-in-Refuted : goal.returns-in-Refuted
returns-in-Refuted g c = c.refute.ensures c.args.left

pub returns-else-branch : goal.returns-else-branch
returns-else-branch g c =
    let v = c.args.valued.now in
    let taken : TakesNext v c.args.path.now.items c.take_next.new.path.items c.in-Open.x false =
    subst (λ b. TakesNext v c.args.path.now.items c.take_next.new.path.items c.in-Open.x b) c.if-branch.false c.in_ok-take_next-in-Open.ensures in
    subst (λ (z : List (ℕ × ℕ)). IfOk c.refute-in-Open.result
    (IsStep {A = g.row.A.Denot} c.args.rules.now v z c.refute-in-Open.new.path.items c.args.left)) taken.0 (c.refute-in-Open.ensures c.args.left)
