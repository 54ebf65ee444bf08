use Rattle.std.proofs.Common.{drop}
use Rattle.network_traffic.proofs.Pieces.{labels_edit}
use Rattle.network_traffic.proofs.labels.drop_at.Goals as goal

pub returns-then-x-flits-clause-value : goal.returns-then-x-flits-clause-value
returns-then-x-flits-clause-value c =
    labels_edit (drop 1) c.args.flits.now c.args.x c.drop_label.new.labels _ c.if-x-flits.true c.drop_label.ensures
