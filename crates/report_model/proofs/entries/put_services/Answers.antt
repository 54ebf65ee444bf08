use Rattle.std.proofs.Common.{◌≡◌, ◌≤◌, ◌++◌, ◌∙◌, List, length, sym, ap, arith}
use Rattle.std.specs.List.{flat_map}
use Rattle.std.proofs.lemmas.List.{take_all}
use Rattle.report_model.specs.declared.entry.Named.{Named}
use Rattle.report_model.specs.declared.row.ReportRow.{ReportRow}
use Rattle.report_model.specs.Entries.{service_entries, services}
use Rattle.report_model.specs.Indexes.{name_issued}
use Rattle.report_model.specs.Rows.{event_limit}
use Rattle.report_model.proofs.Kept.{pieces_more}
use Rattle.report_model.proofs.entries.put_services.Goals as goal

pub loop-k-preserved : goal.loop-k-preserved
loop-k-preserved g c =
    let row : ReportRow = c.row_at-row.result in
    let name : c.name_issued-name.result ≡ name_issued c.args.steps.now row.issued =
    c.name_issued-name.ensures c.args.steps.now (c.deref-in-loop-k.ensures.value ∙ c.in_ok-names.ensures)
    (c.deref-in-loop-k-2.ensures.value ∙ c.in_ok-issues.ensures)
    (ap length c.deref-in-loop-k-3.ensures.value ∙ c.in_ok-places.ensures.sized ∙ c.event_limit-limit.ensures.value
    ∙ ap event_limit (c.deref.ensures.value ∙ sym c.deref-in-loop-k-2.ensures.value)) in
    pieces_more (services c.args.steps.now) c.args.rows.now c.loop-k.k row c.args.entries.now.items c.loop-k.entries.items
    c.put_service.new.entries.items c.row_at-row.ensures
    (c.in_ok-put_service.ensures ∙ ap (λ (n : Named). c.loop-k.entries.items ++ service_entries row n) name) c.loop-k.invariant

pub returns : goal.returns
returns g c =
    let end : length c.args.rows.now ≤ c.loop-k.k = omega arith in
    c.loop-k.invariant ∙ ap (λ (t : List ReportRow). c.args.entries.now.items ++ flat_map (services c.args.steps.now) t) (take_all c.loop-k.k c.args.rows.now end)
