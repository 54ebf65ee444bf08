use Rattle.std.proofs.Common.{◌≤◌, ◌++◌, ◌∷◌, [], ◌∙◌, List, length, map, ap, arith}
use Rattle.std.proofs.lemmas.List.{take_all}
use Rattle.report_model.specs.declared.row.ProgramStep.{ProgramStep}
use Rattle.report_model.specs.Entries.{made_entry}
use Rattle.report_model.proofs.Kept.{mapped_more}
use Rattle.report_model.proofs.entries.put_made.Goals as goal

pub loop-k-preserved : goal.loop-k-preserved
loop-k-preserved g c =
    mapped_more made_entry c.args.steps.now c.loop-k.k c.step_at.result c.args.entries.now.items c.loop-k.entries.items c.push.new.self.items
    c.step_at.ensures (c.in_ok-push.ensures.items ∙ ap (λ e. c.loop-k.entries.items ++ e ∷ []) c.made_entry.ensures) c.loop-k.invariant

pub returns : goal.returns
returns g c =
    let end : length c.args.steps.now ≤ c.loop-k.k = omega arith in
    c.loop-k.invariant ∙ ap (λ (t : List ProgramStep). c.args.entries.now.items ++ map made_entry t) (take_all c.loop-k.k c.args.steps.now end)
