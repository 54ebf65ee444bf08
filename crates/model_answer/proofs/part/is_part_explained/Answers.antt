use Rattle.std.proofs.lemmas.Result.{IfOk-weaker}
use Rattle.model_text.specs.Views.{log_so_far}
use Rattle.model_answer.specs.Parts.{part_of}
use Rattle.model_answer.proofs.Parting.{part_explained, whole_explained}
use Rattle.model_answer.proofs.part.is_part_explained.Goals as goal

pub returns-clause-yes : goal.returns-clause-yes
returns-clause-yes g c =
    let part = log_so_far c.in_ok-part.part in
    let whole = part_of (log_so_far c.args.log.now) c.args.kept.now in
    IfOk-weaker c.is_explained_by.result _ _ (λ b h e. whole_explained part whole c.args.model c.in_ok-part.ensures (h e)) c.is_explained_by.ensures.yes

pub returns-clause-no : goal.returns-clause-no
returns-clause-no g c =
    let part = log_so_far c.in_ok-part.part in
    let whole = part_of (log_so_far c.args.log.now) c.args.kept.now in
    IfOk-weaker c.is_explained_by.result _ _ (λ b h e explained. h e (part_explained part whole c.args.model c.in_ok-part.ensures explained))
    c.is_explained_by.ensures.no
