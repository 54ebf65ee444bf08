use Rattle.std.proofs.Common.{[], ◌∷◌, ◌++◌, length, ap, arith}
use Rattle.std.proofs.lemmas.List.{length_push}
use Rattle.weak_models.specs.Around.{IsStepAround}
use Rattle.weak_models.proofs.Steps.{more}
use Rattle.weak_models.proofs.reasoned.steps_around.Goals as goal

pub loop-k-preserved : goal.loop-k-preserved
loop-k-preserved g c =
    let i = c.loop-k.invariant in
    let size = i.size in
    let items = c.in_ok-push.ensures.items in
    let long = length_push c.loop-k.steps.items c.in-Some.step in
    let same = ap length {x = c.push.new.self.items} {y = c.loop-k.steps.items ++ c.in-Some.step ∷ []} items in
    record {
      size = omega (arith, same, long, size);
      each = more (IsStepAround c.args.notes.now c.args.dependencies.now c.args.operations.now c.args.writes.now c.args.around.now) c.loop-k.steps.items
          c.push.new.self.items c.in-Some.step c.loop-k.k size items c.in-Some.ensures i.each;
    }
