use Rattle.std.proofs.Common.{◌≡◌, ◌∙◌, ◌≤◌, map, length, ap, arith}
use Rattle.std.proofs.lemmas.List.{length-map}
use Rattle.report_model.specs.Indexes.{operation_step}
use Rattle.report_model.specs.Rows.{made_of, rows_of}
use Rattle.report_model.specs.Run.{run_seen}
use Rattle.report_model.proofs.Entered.{of_entries}
use Rattle.report_model.proofs.entries.entries_of.Goals as goal

pub entries_with-requires-clause-rows : goal.entries_with-requires-clause-rows
entries_with-requires-clause-rows g c = c.deref-3.ensures.value ∙ c.in_ok-rows.ensures

pub entries_with-requires-clause-few : goal.entries_with-requires-clause-few
entries_with-requires-clause-few g c =
    let long : length c.deref-4.result.now ≡ length c.in_ok-made.made.items =
    ap length (c.deref-4.ensures.value ∙ c.in_ok-steps.ensures ∙ ap (map operation_step) c.deref-2.ensures.value)
    ∙ length-map c.in_ok-made.made.items operation_step in
    let few : length c.in_ok-made.made.items ≤ 196609 = c.in_ok-made.ensures.few in omega (arith, long, few)

pub returns : goal.returns
returns g c =
    let steps : c.deref-4.result.now ≡ map operation_step (made_of (rows_of (run_seen c.args.run.now))) =
    c.deref-4.ensures.value ∙ c.in_ok-steps.ensures
    ∙ ap (map operation_step) (c.deref-2.ensures.value ∙ c.in_ok-made.ensures.rows ∙ ap made_of (c.deref.ensures.value ∙ c.in_ok-rows.ensures)) in
    of_entries (run_seen c.args.run.now) c.deref-4.result.now c.entries_with.result steps c.entries_with.ensures
