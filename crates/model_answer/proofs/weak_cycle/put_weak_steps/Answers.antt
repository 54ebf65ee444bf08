use Rattle.std.proofs.Common.{◌≡◌, ◌<◌, ◌++◌, ◌∙◌, ap, arith, length, subst, List, ℕ}
use Rattle.std.specs.List.{flat_map, range_with_len}
use Rattle.memory_models.specs.Trace.{operation_at}
use Rattle.weak_models.specs.declared.verdict.ReasonedStep.{ReasonedStep}
use Rattle.weak_models.specs.declared.verdict.Reason.TheVariants.{Read}
use Rattle.weak_models.specs.Arcs.{reasoned_at}
use Rattle.model_text.specs.declared.logged.Logged.{Logged}
use Rattle.model_text.specs.Traces.{logged_at}
use Rattle.model_text.proofs.Growing.{same_read}
use Rattle.model_answer.specs.Texts.{step_text, weak_arc_text, weak_reason_text}
use Rattle.model_answer.proofs.Grown.{text_more, two_more}
use Rattle.model_answer.proofs.weak_cycle.put_weak_steps.Goals as goal

abbrev none : ReasonedStep
none = record { from = 0; to = 0; why = Read }

pub loop-k-preserved : goal.loop-k-preserved
loop-k-preserved g c =
    let steps = c.args.trace.now.steps.items in
    let ops = c.args.trace.now.operations.items in
    let low : c.loop-k.k < length c.args.steps.now = omega arith in
    text_more (weak_arc_text steps ops c.args.steps.now) c.loop-k.k c.args.text.now.items c.loop-k.text.items c.put_weak_arc.new.text.items
    (c.in_ok-put_weak_arc.ensures
    ∙ ap (λ (s : ReasonedStep). c.loop-k.text.items ++ (step_text (logged_at steps s.from) ++ weak_reason_text s.why (operation_at ops s.from).kind))
    (same_read c.args.steps.now c.loop-k.k _ none low))
    c.loop-k.invariant

pub returns : goal.returns
returns g c =
    let steps = c.args.trace.now.steps.items in
    let arcs = weak_arc_text steps c.args.trace.now.operations.items c.args.steps.now in
    let all : c.loop-k.k ≡ length c.args.steps.now = omega arith in
    let so_far : c.loop-k.text.items ≡ c.args.text.now.items ++ flat_map arcs (range_with_len 0 (length c.args.steps.now)) =
    subst (λ (n : ℕ). c.loop-k.text.items ≡ c.args.text.now.items ++ flat_map arcs (range_with_len 0 n)) all c.loop-k.invariant in
    two_more c.args.text.now.items (flat_map arcs (range_with_len 0 (length c.args.steps.now)))
    (step_text (logged_at steps (reasoned_at c.args.steps.now 0).from)) c.loop-k.text.items c.put_step.new.text.items so_far
    (c.in_ok-put_step.ensures ∙ ap (λ (l : Logged). c.loop-k.text.items ++ step_text l)
    (c.logged_at.ensures ∙ (ap (λ (xs : List Logged). logged_at xs c.first_of.result.from) c.deref.ensures.value
    ∙ ap (λ (s : ReasonedStep). logged_at steps s.from) c.first_of.ensures)))
