use Rattle.std.proofs.Common.{◌∙◌, sym, ap, refl}
use Rattle.torus.specs.Shape.{tiles_of}
use Rattle.report_model.specs.Rows.{made_of}
use Rattle.report_model.specs.Run.{run_seen}
use Rattle.report_model.proofs.Answering.{answered_with, unanswered_with, unjudged_with}
use Rattle.report_model.proofs.fenced.answer_with_fences.Goals as goal

pub returns-in-Err-clause-none : goal.returns-in-Err-clause-none
returns-in-Err-clause-none g c =
    unanswered_with c.args.machine.now c.args.scripts.now (run_seen c.args.run.now) c.deref-2.result.now c.tiles.result
    (sym c.lacks_order.ensures ∙ c.if-lacks_order.false) (c.if-not-is_run_of.ensures.yes refl)
    (c.deref-2.ensures.value ∙ c.in-Ok-made_of.ensures.rows ∙ ap made_of (c.deref.ensures.value ∙ c.in-Ok.ensures))
    (c.tiles.ensures.value ∙ ap tiles_of c.torus.ensures.value) c.in-Err.why c.in-Err.ensures.none

pub entries_with-requires-clause-rows : goal.entries_with-requires-clause-rows
entries_with-requires-clause-rows g c = c.deref-3.ensures.value ∙ c.in-Ok.ensures

pub returns-in-Ok-answer_to_lines-clause-answer : goal.returns-in-Ok-answer_to_lines-clause-answer
returns-in-Ok-answer_to_lines-clause-answer g c =
    answered_with c.args.machine.now c.args.scripts.now (run_seen c.args.run.now) c.deref-2.result.now c.tiles.result
    (sym c.lacks_order.ensures ∙ c.if-lacks_order.false) (c.if-not-is_run_of.ensures.yes refl)
    (c.deref-2.ensures.value ∙ c.in-Ok-made_of.ensures.rows ∙ ap made_of (c.deref.ensures.value ∙ c.in-Ok.ensures))
    (c.tiles.ensures.value ∙ ap tiles_of c.torus.ensures.value) c.deref-4.result.now c.from.result c.deref-5.result.now c.args.options
    c.in-Ok-answer_to_lines.answer c.in-Ok-programs_of.ensures.scripted (c.deref-4.ensures.value ∙ c.in-Ok-programs_of.ensures.steps) c.from.ensures
    (c.deref-5.ensures.value ∙ c.in-Ok-entries_with.ensures) c.in-Ok-answer_to_lines.ensures.answer

pub returns-clause-none : goal.returns-clause-none
returns-clause-none g c =
    unjudged_with c.args.machine.now c.args.scripts.now (run_seen c.args.run.now) c.deref-2.result.now c.tiles.result
    (sym c.lacks_order.ensures ∙ c.if-lacks_order.false) (c.if-not-is_run_of.ensures.yes refl)
    (c.deref-2.ensures.value ∙ c.in-Ok-made_of.ensures.rows ∙ ap made_of (c.deref.ensures.value ∙ c.in-Ok.ensures))
    (c.tiles.ensures.value ∙ ap tiles_of c.torus.ensures.value) c.deref-4.result.now c.from.result c.deref-5.result.now
    c.in-Err-answer_to_lines.why c.in-Ok-programs_of.ensures.scripted (c.deref-4.ensures.value ∙ c.in-Ok-programs_of.ensures.steps) c.from.ensures
    (c.deref-5.ensures.value ∙ c.in-Ok-entries_with.ensures) c.in-Err-answer_to_lines.ensures.none
