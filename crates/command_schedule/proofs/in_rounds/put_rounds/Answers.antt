-- The rounds stop where every script is finished, or where no more are allowed.
use Rattle.std.proofs.Common.{◌≡◌, ℕ, ◌+◌, [], sym, ap, ◌∙◌, arith}
use Rattle.std.proofs.lemmas.Result.{err_from_is_err_and}
use Rattle.torus.specs.Shape.{Shape}
use Rattle.core_laws.specs.Core.{round}
use Rattle.core_laws.specs.Machine.{Core}
use Rattle.machine_core.proofs.Rounds.{same_shape}
use Rattle.fair_rounds.specs.declared.pacing.Pace.TheVariants.{InOrder}
use Rattle.command_schedule.proofs.InRounds.{as_allowed, enough, none_put, one_more, some_put}
use Rattle.command_schedule.proofs.in_rounds.put_rounds.Goals as goal

pub loop-before-init : goal.loop-before-init
loop-before-init g c = record { put = λ l start. none_put InOrder l c.args.machine.now _ start; round = c.requires }

pub loop-before-preserved : goal.loop-before-preserved
loop-before-preserved g c = record {
  put = λ l start.
      one_more InOrder l c.loop-before.before c.loop-before.machine _ _ (c.loop-before.invariant.put l start)
      (sym c.if-finished.false ∙ c.finished.ensures.value) c.args.attempts.now c.loop-before.invariant.round
      c.put_moves.new.machine _ c.in_ok-put_moves.ensures.machine c.in_ok-put_moves.ensures.took;
  round = c.loop-before.invariant.round
      ∙ ap round (sym (ap (λ (x : Core). x.shape) c.in_ok-put_moves.ensures.machine ∙ same_shape c.loop-before.machine c.args.attempts.now));
}

pub returns-then-finished : goal.returns-then-finished
returns-then-finished g c = λ l start.
    enough InOrder l c.args.rounds c.loop-before.before c.loop-before.machine _ _ (c.loop-before.invariant.put l start) c.loop-before-test.true
    (sym c.if-finished.true ∙ c.finished.ensures.value)

pub returns-in_err-put_moves : goal.returns-in_err-put_moves
returns-in_err-put_moves g c = λ l start.
    let p = err_from_is_err_and c.from_residual.result c.from_residual.ensures.1 in
    rw p.1 (some_put InOrder l c.args.rounds c.loop-before.before c.loop-before.machine _ _ _ (c.loop-before.invariant.put l start) c.loop-before-test.true
    (sym c.if-finished.false ∙ c.finished.ensures.value) c.args.attempts.now c.loop-before.invariant.round c.in_err-put_moves.ensures.took)

pub returns : goal.returns
returns g c = λ l start.
    let end : c.loop-before.before ≡ c.args.rounds = omega arith in
    as_allowed InOrder l c.args.rounds c.loop-before.before c.loop-before.machine _ _ (c.loop-before.invariant.put l start) end
