-- The rounds stop where every script is finished, or where no more are allowed.
use Rattle.std.proofs.Common.{◌≡◌, ℕ, ◌+◌, [], List, length, refl, sym, ap, subst, ◌∙◌, arith}
use Rattle.std.proofs.lemmas.Result.{err_from_is_err_and}
use Rattle.torus.specs.Shape.{Shape}
use Rattle.torus.specs.declared.step.Step.{Step}
use Rattle.core_laws.specs.Machine.{Core}
use Rattle.machine_core.specs.Clocked.{clocked_round}
use Rattle.machine_core.proofs.Rounds.{same_shape}
use Rattle.fair_rounds.specs.declared.pacing.Pace.TheVariants.{Turned}
use Rattle.command_schedule.specs.Turned.{AreTurned, HasChoiceRoom}
use Rattle.command_schedule.proofs.InRounds.{as_allowed, enough, none_put, one_more, some_put}
use Rattle.command_schedule.proofs.Turned.{kept_room}
use Rattle.command_schedule.proofs.clocked.put_clocked_rounds.Goals as goal

pub loop-before-init : goal.loop-before-init
loop-before-init g c = record {
  put = λ l start. none_put Turned l c.args.machine.now _ start;
  turned = c.requires.turned;
  room = c.requires.room;
}

pub loop-before-preserved : goal.loop-before-preserved
loop-before-preserved g c =
    let now : Core = c.loop-before.machine in
    let shape : now.shape ≡ c.put_clocked_round.new.machine.shape =
    sym (ap (λ (x : Core). x.shape) c.in_ok-put_clocked_round.ensures.machine ∙ same_shape now (clocked_round now c.loop-before.before)) in
    record {
      put = λ l start.
          one_more Turned l c.loop-before.before now _ _ (c.loop-before.invariant.put l start)
          (sym c.if-finished.false ∙ c.finished.ensures.value) (clocked_round now c.loop-before.before) refl
          c.put_clocked_round.new.machine _ c.in_ok-put_clocked_round.ensures.machine c.in_ok-put_clocked_round.ensures.took;
      turned = subst (λ (s : Shape). AreTurned s c.args.turned.now) shape c.loop-before.invariant.turned;
      room = kept_room now.shape c.put_clocked_round.new.machine.shape c.loop-before.room c.put_clocked_round.new.room shape
          c.put_clocked_round.ensures.room c.loop-before.invariant.room;
    }

pub returns-then-finished : goal.returns-then-finished
returns-then-finished g c = λ l start.
    enough Turned l c.args.rounds c.loop-before.before c.loop-before.machine _ _ (c.loop-before.invariant.put l start) c.loop-before-test.true
    (sym c.if-finished.true ∙ c.finished.ensures.value)

pub returns-in_err-put_clocked_round : goal.returns-in_err-put_clocked_round
returns-in_err-put_clocked_round g c = λ l start.
    let p = err_from_is_err_and c.from_residual.result c.from_residual.ensures.1 in
    rw p.1 (some_put Turned l c.args.rounds c.loop-before.before c.loop-before.machine _ _ _ (c.loop-before.invariant.put l start) c.loop-before-test.true
    (sym c.if-finished.false ∙ c.finished.ensures.value) (clocked_round c.loop-before.machine c.loop-before.before) refl
    c.in_err-put_clocked_round.ensures.took)

pub returns : goal.returns
returns g c = λ l start.
    let end : c.loop-before.before ≡ c.args.rounds = omega arith in
    as_allowed Turned l c.args.rounds c.loop-before.before c.loop-before.machine _ _ (c.loop-before.invariant.put l start) end
