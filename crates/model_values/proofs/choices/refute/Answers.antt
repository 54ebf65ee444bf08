use Rattle.std.proofs.Common.{true, false, subst}
use Rattle.model_values.specs.ChoiceSteps.{TurnsBack}
use Rattle.model_values.proofs.Taking.{goes_back, goes_nowhere}
use Rattle.model_values.proofs.choices.refute.Goals as goal

pub returns-then-branch : goal.returns-then-branch
returns-then-branch g c left = goes_back g.row.A.Denot c.args.rules.now c.args.valued.now c.args.path.now.items c.turn_back.new.path.items c.args.depth left
    c.requires.none
    (subst (λ z. TurnsBack c.args.valued.now z c.turn_back.new.path.items true) c.truncate.ensures.items
    (subst (λ b. TurnsBack c.args.valued.now c.truncate.new.self.items c.turn_back.new.path.items b) c.if-branch.true c.in_ok-turn_back.ensures))

pub returns : goal.returns
returns g c left = goes_nowhere g.row.A.Denot c.args.rules.now c.args.valued.now c.args.path.now.items c.turn_back.new.path.items c.args.depth left
    c.requires.none
    (subst (λ z. TurnsBack c.args.valued.now z c.turn_back.new.path.items false) c.truncate.ensures.items
    (subst (λ b. TurnsBack c.args.valued.now c.truncate.new.self.items c.turn_back.new.path.items b) c.if-branch.false c.in_ok-turn_back.ensures))
