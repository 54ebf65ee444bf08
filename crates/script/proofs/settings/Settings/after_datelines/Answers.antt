use Rattle.std.proofs.Common.{sym, ◌∙◌, ap}
use Rattle.script.specs.Settings.{undated}
use Rattle.script.specs.Views.{few_list}
use Rattle.script.proofs.Checks.{datelines_refused}
use Rattle.script.proofs.settings.Settings.after_datelines.Goals as goal

pub returns-in-Some-undated-clause-value : goal.returns-in-Some-undated-clause-value
returns-in-Some-undated-clause-value c =
    datelines_refused c.args.self (few_list c.args.datelines) c.in-Some.radices c.in-Some-dims.dims c.in-Some-undated.reason
    (sym c.is_some.ensures ∙ c.if-is_some.false) c.in-Some.is c.in-Some-dims.is
    (ap (undated (few_list c.args.datelines)) (sym c.spread.ensures.list) ∙ sym c.undated.ensures.value ∙ c.in-Some-undated.is)
