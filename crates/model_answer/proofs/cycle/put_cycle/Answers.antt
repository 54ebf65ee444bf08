use Rattle.std.proofs.Common.{◌≡◌, ◌++◌, ◌∙◌, ap, arith, length, subst, List, ℕ}
use Rattle.std.specs.List.{flat_map, range_with_len}
use Rattle.memory_models.specs.Verdict.{step_at}
use Rattle.model_text.specs.declared.logged.Logged.{Logged}
use Rattle.model_text.specs.Traces.{logged_at}
use Rattle.model_answer.specs.Texts.{arc_text, step_text}
use Rattle.model_answer.proofs.Grown.{text_more, two_more}
use Rattle.model_answer.proofs.cycle.put_cycle.Goals as goal

pub loop-k-preserved : goal.loop-k-preserved
loop-k-preserved g c =
    text_more (arc_text c.args.trace.now.steps.items c.args.trace.now.operations.items c.args.steps.now c.args.whys.now) c.loop-k.k
    c.args.text.now.items c.loop-k.text.items c.put_arc.new.text.items c.in_ok-put_arc.ensures c.loop-k.invariant

pub returns : goal.returns
returns g c =
    let arcs = arc_text c.args.trace.now.steps.items c.args.trace.now.operations.items c.args.steps.now c.args.whys.now in
    let all : c.loop-k.k ≡ length c.args.steps.now = omega arith in
    let so_far : c.loop-k.text.items ≡ c.args.text.now.items ++ flat_map arcs (range_with_len 0 (length c.args.steps.now)) =
    subst (λ (n : ℕ). c.loop-k.text.items ≡ c.args.text.now.items ++ flat_map arcs (range_with_len 0 n)) all c.loop-k.invariant in
    two_more c.args.text.now.items (flat_map arcs (range_with_len 0 (length c.args.steps.now)))
    (step_text (logged_at c.args.trace.now.steps.items (step_at c.args.steps.now 0).from)) c.loop-k.text.items c.put_step.new.text.items so_far
    (c.in_ok-put_step.ensures ∙ ap (λ (l : Logged). c.loop-k.text.items ++ step_text l)
    (c.logged_at.ensures ∙ ap (λ (xs : List Logged). logged_at xs (step_at c.args.steps.now 0).from) c.deref.ensures.value))
