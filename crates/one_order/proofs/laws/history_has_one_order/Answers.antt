use Rattle.one_order.proofs.IssueNumbers.{rows_of, one_order}
use Rattle.one_order.proofs.laws.history_has_one_order.Goals as goal

pub returns : goal.returns
returns c = record {
  every = one_order;
  some = λ tiles tags opening run event n h. let rows = rows_of tiles tags opening run event n h in
      (rows.0, one_order tiles tags opening run event n rows.0 h rows.1);
}
