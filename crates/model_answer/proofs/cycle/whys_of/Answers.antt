use Rattle.std.proofs.Common.{ℕ, arith, subst, List}
use Rattle.memory_models.specs.declared.kinds.Operation.{Operation}
use Rattle.memory_models.specs.declared.kinds.Why.{Why}
use Rattle.memory_models.specs.Arcs.{IsWhy}
use Rattle.memory_models.specs.Verdict.{step_at}
use Rattle.model_answer.proofs.Grown.{whys_more}
use Rattle.model_answer.proofs.cycle.whys_of.Goals as goal

pub loop-k-preserved : goal.loop-k-preserved
loop-k-preserved g c =
    let step = step_at c.args.steps.now c.loop-k.k in
    let with_operations : IsWhy c.args.rules.now c.args.trace.now.operations.items c.deref-in-loop-k.result.now step.from step.to c.why_of.result =
    subst (λ (o : List Operation). IsWhy c.args.rules.now o c.deref-in-loop-k.result.now step.from step.to c.why_of.result) c.deref.ensures.value
    c.why_of.ensures in
    let here : IsWhy c.args.rules.now c.args.trace.now.operations.items c.args.trace.now.writes.items step.from step.to c.why_of.result =
    subst (λ (w : List ℕ). IsWhy c.args.rules.now c.args.trace.now.operations.items w step.from step.to c.why_of.result)
    c.deref-in-loop-k.ensures.value with_operations in
    record {
      size = omega (arith, c.in_ok-push.ensures.len, c.loop-k.invariant.size);
      each = whys_more (λ (j : ℕ) (why : Why). IsWhy c.args.rules.now c.args.trace.now.operations.items c.args.trace.now.writes.items
          (step_at c.args.steps.now j).from (step_at c.args.steps.now j).to why)
          c.loop-k.whys.items c.push.new.self.items c.loop-k.k c.why_of.result c.loop-k.invariant.size c.in_ok-push.ensures.items
          here c.loop-k.invariant.each;
    }
