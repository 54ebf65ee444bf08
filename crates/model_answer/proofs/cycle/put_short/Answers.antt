use Rattle.std.proofs.Common.{List, refl, subst, sym}
use Rattle.memory_models.specs.declared.kinds.Step.{Step}
use Rattle.memory_models.specs.declared.kinds.Why.{Why}
use Rattle.memory_models.specs.Verdict.{AreAround}
use Rattle.model_answer.specs.Answer.{AreWhys}
use Rattle.model_answer.specs.Texts.{cycle_text}
use Rattle.model_answer.proofs.cycle.put_short.Goals as goal

pub returns : goal.returns
returns g c =
    let rules = c.args.rules.now in
    let ops = c.args.trace.now.operations.items in
    let writes = c.args.trace.now.writes.items in
    record {
      part = cycle_text c.args.trace.now.steps.items ops c.deref-2.result.now c.deref-3.result.now;
      grown = c.in_ok-put_cycle.ensures;
      is = record {
        steps = c.deref-2.result.now;
        whys = c.deref-3.result.now;
        around = subst (AreAround rules ops writes) (sym c.deref-2.ensures.value) c.in_ok-steps.ensures.around;
        reasons = subst (λ (w : List Why). AreWhys rules ops writes c.deref-2.result.now w) (sym c.deref-3.ensures.value)
            (subst (λ (s : List Step). AreWhys rules ops writes s c.in_ok-whys.whys.items) (sym c.deref-2.ensures.value)
            (subst (λ (s : List Step). AreWhys rules ops writes s c.in_ok-whys.whys.items) c.deref.ensures.value c.in_ok-whys.ensures));
        is = refl;
      };
    }
