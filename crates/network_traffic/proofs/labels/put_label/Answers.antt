use Rattle.std.proofs.Common.{sym, ap, ◌∙◌}
use Rattle.network_traffic.specs.Labels.{label_added, labels_of, label_put}
use Rattle.network_traffic.proofs.Pieces.{labels_edit}
use Rattle.network_traffic.proofs.labels.put_label.Goals as goal

pub returns-then-y-flits-clause-value : goal.returns-then-y-flits-clause-value
returns-then-y-flits-clause-value c =
    labels_edit (λ ks. label_added ks c.in-Some.k) c.args.flits.now c.args.y c.add_label.new.labels _ c.if-y-flits.true c.add_label.ensures
    ∙ ap (label_put (labels_of c.args.flits.now) c.args.y) (sym c.in-Some.is)
