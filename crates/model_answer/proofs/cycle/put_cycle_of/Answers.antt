use Rattle.std.proofs.Common.{◌≡◌, ◌∙◌, subst, List}
use Rattle.memory_models.specs.declared.kinds.Rule.{Rule}
use Rattle.model_answer.specs.Answer.{AddsPart, TellsCycle, cycle_heading}
use Rattle.model_answer.specs.Model.{rules_of_model}
use Rattle.model_answer.proofs.Asked.{chained_so}
use Rattle.model_answer.proofs.Grown.{adds_behind}
use Rattle.model_answer.proofs.cycle.put_cycle_of.Goals as goal

pub put_short-requires-clause-chained : goal.put_short-requires-clause-chained
put_short-requires-clause-chained g c = chained_so c.args.model c.deref.result.now (c.deref.ensures.value ∙ c.in_ok-rules.ensures)

pub returns : goal.returns
returns g c =
    let is : c.deref.result.now ≡ rules_of_model c.args.model = c.deref.ensures.value ∙ c.in_ok-rules.ensures in
    let part : AddsPart c.put_heading.new.text.items c.put_short.new.text.items
    (TellsCycle (rules_of_model c.args.model) c.args.trace.now.operations.items c.args.trace.now.writes.items c.args.trace.now.steps.items) =
    subst (λ (rules : List Rule). AddsPart c.put_heading.new.text.items c.put_short.new.text.items
    (TellsCycle rules c.args.trace.now.operations.items c.args.trace.now.writes.items c.args.trace.now.steps.items)) is c.in_ok-put_short.ensures in
    adds_behind c.args.text.now.items c.put_heading.new.text.items c.put_short.new.text.items (cycle_heading c.args.model)
    c.in_ok-put_heading.ensures part
