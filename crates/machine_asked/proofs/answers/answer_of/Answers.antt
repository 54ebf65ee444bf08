use Rattle.std.proofs.Common.{ap, sym, ◌∙◌, ◌==◌}
use Rattle.std.specs.List.{find}
use Rattle.machine_asked.proofs.Behind.{near_behind}
use Rattle.machine_asked.proofs.answers.answer_of.Goals as goal

pub returns : goal.returns
returns c =
    c.answer_among.ensures
    ∙ (ap (find (λ a. a.index == c.args.index)) c.answers_from.ensures
    ∙ near_behind c.args.answers.now _ c.args.index c.requires.near c.saturating_sub-from.ensures)
