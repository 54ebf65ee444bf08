use Rattle.std.proofs.Common.{◌∙◌, ◌++◌, ap}
use Rattle.std.specs.Prelude.{codes}
use Rattle.model_answer.specs.Model.{model_word}
use Rattle.model_answer.proofs.Grown.{three_more}
use Rattle.model_answer.proofs.order.put_heading.Goals as goal

pub returns : goal.returns
returns g c = three_more c.args.text.now.items (codes "an order of ") (model_word c.args.model) (codes ":\n") c.put.new.text.items
    c.put-2.new.text.items c.put-3.new.text.items c.in_ok-put.ensures
    (c.in_ok-put-2.ensures ∙ ap (λ w. c.put.new.text.items ++ w) (c.as_bytes.ensures.value ∙ c.word.ensures)) c.in_ok-put-3.ensures
