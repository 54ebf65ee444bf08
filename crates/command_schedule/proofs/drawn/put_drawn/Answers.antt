-- One move more, and where the moves stop.
use Rattle.std.proofs.Common.{◌≡◌, ℕ, ◌-◌, List, [], ◌∷◌, refl, sym, ap, ◌∙◌, arith}
use Rattle.torus.specs.declared.step.Step.{Step}
use Rattle.std.proofs.lemmas.Result.{err_from_is_err_and}
use Rattle.core_laws.specs.Core.{round}
use Rattle.core_laws.specs.Machine.{Core}
use Rattle.machine_core.proofs.Rounds.{same_shape}
use Rattle.command_schedule.specs.Drawn.{drawn_of, enabled_now}
use Rattle.command_schedule.proofs.Drawing.{HasDrawn, draw_front, draw_more, drawn_led, drawn_took, no_draw_allowed, no_draw_finished, no_draw_idle, none_drawn_at}
use Rattle.command_schedule.proofs.drawn.put_drawn.Goals as goal

pub loop-left-init : goal.loop-left-init
loop-left-init g c = record {
  drawn = none_drawn_at c.args.machine.now c.args.most c.args.seed _ _ c.seed_from_u64-draws.ensures.same;
  round = c.requires;
}

pub loop-left-preserved : goal.loop-left-preserved
loop-left-preserved g c = record {
  drawn = draw_more _ _ _ _ c.loop-left.machine c.loop-left.left c.loop-left.draws _ c.loop-left.invariant.drawn
      c.loop-left-test.true (sym c.finished.ensures.value ∙ c.if-finished.false) c.next_word.result _ c.next_word.ensures c.in-Some.step
      (c.in-Some.ensures ∙ ap (λ (xs : List Step). drawn_of (enabled_now c.loop-left.machine xs) c.next_word.result) c.loop-left.invariant.round)
      c.step.new.self _ _ refl c.step.ensures.step.change c.in_ok-put_line.ensures;
  round = c.loop-left.invariant.round
      ∙ ap round (sym (ap (λ (x : Core). x.shape) c.step.ensures.step.change ∙ same_shape c.loop-left.machine (c.in-Some.step ∷ [])));
}

pub returns-in_err-put_line-clause-took : goal.returns-in_err-put_line-clause-took
returns-in_err-put_line-clause-took g c =
    let p = err_from_is_err_and c.from_residual.result c.from_residual.ensures.1 in
    rw p.1 (draw_front _ _ _ _ c.loop-left.machine c.loop-left.left c.loop-left.draws _ c.loop-left.invariant.drawn
    c.loop-left-test.true (sym c.finished.ensures.value ∙ c.if-finished.false) c.next_word.result _ c.next_word.ensures c.in-Some.step
    (c.in-Some.ensures ∙ ap (λ (xs : List Step). drawn_of (enabled_now c.loop-left.machine xs) c.next_word.result) c.loop-left.invariant.round)
    _ c.in_err-put_line.ensures)

pub returns-in_default-clause-machine : goal.returns-in_default-clause-machine
returns-in_default-clause-machine g c =
    drawn_led _ _ _ _ c.loop-left.machine c.loop-left.left c.loop-left.draws _ c.loop-left.invariant.drawn
    (no_draw_idle c.loop-left.machine c.loop-left.left c.loop-left.draws c.next_word.result _ c.loop-left-test.true
    (sym c.finished.ensures.value ∙ c.if-finished.false) c.next_word.ensures
    (c.in_default.ensures ∙ ap (λ (xs : List Step). drawn_of (enabled_now c.loop-left.machine xs) c.next_word.result) c.loop-left.invariant.round))

pub returns-in_default-clause-took : goal.returns-in_default-clause-took
returns-in_default-clause-took g c =
    drawn_took _ _ _ _ c.loop-left.machine c.loop-left.left c.loop-left.draws _ c.loop-left.invariant.drawn
    (no_draw_idle c.loop-left.machine c.loop-left.left c.loop-left.draws c.next_word.result _ c.loop-left-test.true
    (sym c.finished.ensures.value ∙ c.if-finished.false) c.next_word.ensures
    (c.in_default.ensures ∙ ap (λ (xs : List Step). drawn_of (enabled_now c.loop-left.machine xs) c.next_word.result) c.loop-left.invariant.round))

pub returns-then-finished-clause-machine : goal.returns-then-finished-clause-machine
returns-then-finished-clause-machine g c =
    drawn_led _ _ _ _ c.loop-left.machine c.loop-left.left c.loop-left.draws _ c.loop-left.invariant.drawn
    (no_draw_finished c.loop-left.machine c.loop-left.left c.loop-left.draws (sym c.finished.ensures.value ∙ c.if-finished.true))

pub returns-then-finished-clause-took : goal.returns-then-finished-clause-took
returns-then-finished-clause-took g c =
    drawn_took _ _ _ _ c.loop-left.machine c.loop-left.left c.loop-left.draws _ c.loop-left.invariant.drawn
    (no_draw_finished c.loop-left.machine c.loop-left.left c.loop-left.draws (sym c.finished.ensures.value ∙ c.if-finished.true))

pub returns-clause-machine : goal.returns-clause-machine
returns-clause-machine g c =
    drawn_led _ _ _ _ c.loop-left.machine c.loop-left.left c.loop-left.draws _ c.loop-left.invariant.drawn
    (no_draw_allowed c.loop-left.machine c.loop-left.left c.loop-left.draws (omega arith))

pub returns-clause-took : goal.returns-clause-took
returns-clause-took g c =
    drawn_took _ _ _ _ c.loop-left.machine c.loop-left.left c.loop-left.draws _ c.loop-left.invariant.drawn
    (no_draw_allowed c.loop-left.machine c.loop-left.left c.loop-left.draws (omega arith))
