use Rattle.weak_models.proofs.Exact.{word_arcs_are}
use Rattle.weak_models.proofs.judging.other_arcs.Goals as goal

pub pair_arcs-requires : goal.pair_arcs-requires
pair_arcs-requires g c = record {
  trace = c.requires;
  arcs = word_arcs_are c.args.notes.now c.args.dependencies.now c.args.operations.now c.args.writes.now c.in_ok-edges.edges.items c.in_ok-edges.ensures.arcs;
}

pub returns-clause-other : goal.returns-clause-other
returns-clause-other g c =
    let p = c.in_ok-pair_arcs.ensures in
    record { first = c.in_ok-edges.edges.items; words = c.in_ok-edges.ensures; more = p.more; pairs = p.rises }
