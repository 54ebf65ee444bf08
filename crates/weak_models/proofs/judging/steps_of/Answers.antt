use Rattle.std.proofs.Common.{[], ◌∷◌, ◌++◌, length, ap, refl, arith}
use Rattle.std.specs.Prelude.{slice_index}
use Rattle.std.proofs.lemmas.List.{length_push}
use Rattle.rising.specs.declared.edge.Edge.{Edge}
use Rattle.rising.specs.Graph.{edge_at}
use Rattle.weak_models.specs.declared.verdict.ReasonedStep.{ReasonedStep}
use Rattle.weak_models.specs.Arcs.{IsStep}
use Rattle.weak_models.proofs.Steps.{more}
use Rattle.weak_models.proofs.judging.steps_of.Goals as goal

pub loop-k-preserved : goal.loop-k-preserved
loop-k-preserved g c =
    let i = c.loop-k.invariant in
    let size = i.size in
    let items = c.in_ok-push.ensures.items in
    let edge : Edge = edge_at c.args.edges.now (slice_index c.args.cycle.now c.loop-k.k) in
    let step : ReasonedStep = record { from = edge.from; to = edge.to; why = c.reason_of-why.result } in
    let long = length_push c.loop-k.steps.items step in
    let same = ap length {x = c.push.new.self.items} {y = c.loop-k.steps.items ++ step ∷ []} items in
    record {
      size = omega (arith, same, long, size);
      each = more
          (λ m. IsStep c.args.notes.now c.args.dependencies.now c.args.operations.now c.args.writes.now (edge_at c.args.edges.now (slice_index c.args.cycle.now m)))
          c.loop-k.steps.items c.push.new.self.items step c.loop-k.k size items (record { from = refl; to = refl; is = c.reason_of-why.ensures }) i.each;
    }
