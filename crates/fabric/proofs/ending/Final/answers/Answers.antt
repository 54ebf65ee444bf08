use Rattle.std.proofs.Common.{Some, ap, sym, ◌∙◌, refl}
use Rattle.fabric.proofs.EndsShown.{no_answers, answers_known}
use Rattle.fabric.proofs.ending.Final.answers.Goals as goal

pub returns-in_default : goal.returns-in_default
returns-in_default g c = sym
    (no_answers c.args.self.now.load c.args.self.now.run c.args.processor c.in_default.ensures.accepted (c.in_default.ensures.none.0 refl))

pub returns : goal.returns
returns g c = ap Some c.answers.ensures
    ∙ sym (answers_known c.args.self.now.load c.args.self.now.run c.args.processor c.in-Some.tile.now.place c.in-Some.ensures.some.place)
