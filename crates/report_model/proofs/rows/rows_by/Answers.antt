use Rattle.std.proofs.Common.{◌≡◌, ◌≤◌, ◌∙◌, length, ap, arith}
use Rattle.std.specs.Prelude.{option_map}
use Rattle.std.specs.List.{filter_map}
use Rattle.std.proofs.lemmas.List.{take_all}
use Rattle.report_lines.specs.declared.line.OrderLine.{OrderLine}
use Rattle.report_model.specs.declared.run.ServedLine.{ServedLine}
use Rattle.report_model.specs.Rows.{order_key, report_row_of, row_ordered}
use Rattle.report_model.proofs.Kept.{kept_more}
use Rattle.report_model.proofs.rows.rows_by.Goals as goal

pub loop-k-preserved : goal.loop-k-preserved
loop-k-preserved g c =
    let order : OrderLine = c.order_at-order.result in
    let named : c.row_named.result ≡ row_ordered c.args.entries.now order =
    c.row_named.ensures ∙ ap (λ o. option_map (λ (s : ServedLine). report_row_of s order) o) (c.in_ok-by.ensures (order_key order)) in
    kept_more (row_ordered c.args.entries.now) c.args.orders.now c.loop-k.k c.order_at-order.result c.loop-k.rows.items c.push_some.new.rows.items
    c.row_named.result c.order_at-order.ensures named c.in_ok-push_some.ensures c.loop-k.invariant

pub returns : goal.returns
returns g c =
    let end : length c.args.orders.now ≤ c.loop-k.k = omega arith in
    c.loop-k.invariant ∙ ap (filter_map (row_ordered c.args.entries.now)) (take_all c.loop-k.k c.args.orders.now end)
