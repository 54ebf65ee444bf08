-- The rounds stop where every script is finished, or where no more are allowed.
use Rattle.std.proofs.Common.{◌≡◌, ℕ, ◌+◌, ◌≤◌, [], Option, sym, ap, subst, ◌∙◌, arith, length, refl}
use Rattle.std.proofs.lemmas.Result.{err_from_is_err_and}
use Rattle.one_order.specs.Load.{Load}
use Rattle.core_laws.specs.Machine.{Core, IsAfter}
use Rattle.machine_core.specs.Guarded.{guarded_round}
use Rattle.machine_core.specs.Oldest.{oldest}
use Rattle.fair_rounds.specs.Guard.{Guarding, holds, guard_after}
use Rattle.fair_rounds.specs.declared.pacing.Pace.TheVariants.{Fair}
use Rattle.fair_rounds.specs.Fewest.{AreFewestPaced}
use Rattle.fair_rounds.specs.Paces.{first_guard, guard_behind}
use Rattle.fair_rounds.proofs.Paced.{enough as enough_made, as_allowed as all_allowed, fewest_once, first_pacer, guard_more, HasMade}
use Rattle.command_schedule.proofs.InRounds.{as_allowed, enough, none_put, one_more, some_put}
use Rattle.command_schedule.proofs.fair.put_fair_rounds.Goals as goal

pub loop-before-init : goal.loop-before-init
loop-before-init g c = record {
  put = λ l most start first. none_put (Fair most) l c.args.machine.now _ start;
  guard = λ l most start first. first ∙ first_pacer (Fair most) l c.args.machine.now start;
  room = refl;
}

pub put_fair_round-requires-clause-room : goal.put_fair_round-requires-clause-room
put_fair_round-requires-clause-room g c = let room = c.loop-before.invariant.room in omega (arith, room, c.requires)

pub loop-before-preserved : goal.loop-before-preserved
loop-before-preserved g c =
    let now : Core = c.loop-before.machine in
    record {
      put = λ l most start first.
          one_more (Fair most) l c.loop-before.before now _ _ (c.loop-before.invariant.put l most start first)
          (sym c.if-finished.false ∙ c.finished.ensures.value) (guarded_round oldest (holds c.loop-before.guard now) now)
          (ap (λ (guard : Guarding). guarded_round oldest (holds guard now) now) (c.loop-before.invariant.guard l most start first))
          c.put_fair_round.new.machine _ c.in_ok-put_fair_round.ensures.machine c.in_ok-put_fair_round.ensures.took;
      guard = λ l most start first.
          c.put_fair_round.ensures.guard
          ∙ (ap (λ (guard : Guarding). guard_after guard now) (c.loop-before.invariant.guard l most start first)
          ∙ guard_more (Fair most) l c.loop-before.before now (c.loop-before.invariant.put l most start first).made.after);
      room = c.put_fair_round.ensures.room ∙ c.loop-before.invariant.room;
    }

pub returns-then-finished : goal.returns-then-finished
returns-then-finished g c =
    let finished = sym c.if-finished.true ∙ c.finished.ensures.value in
    record {
      puts = λ l most start first.
          enough (Fair most) l c.args.rounds c.loop-before.before c.loop-before.machine _ _ (c.loop-before.invariant.put l most start first) c.loop-before-test.true
          finished;
      guard = λ l most start first k fewest.
          c.loop-before.invariant.guard l most start first
          ∙ ap (guard_behind (Fair most) l) (fewest_once (Fair most) l c.args.rounds c.loop-before.before k
          (enough_made (Fair most) l c.args.rounds c.loop-before.before c.loop-before.machine (c.loop-before.invariant.put l most start first).made
          c.loop-before-test.true finished) fewest);
    }

pub returns-in_err-put_fair_round-clause-puts : goal.returns-in_err-put_fair_round-clause-puts
returns-in_err-put_fair_round-clause-puts g c = λ l most start first.
    let p = err_from_is_err_and c.from_residual.result c.from_residual.ensures.1 in
    let now : Core = c.loop-before.machine in
    rw p.1 (some_put (Fair most) l c.args.rounds c.loop-before.before now _ _ _ (c.loop-before.invariant.put l most start first) c.loop-before-test.true
    (sym c.if-finished.false ∙ c.finished.ensures.value) (guarded_round oldest (holds c.loop-before.guard now) now)
    (ap (λ (guard : Guarding). guarded_round oldest (holds guard now) now) (c.loop-before.invariant.guard l most start first))
    c.in_err-put_fair_round.ensures.took)

pub returns : goal.returns
returns g c =
    let end : c.loop-before.before ≡ c.args.rounds = omega arith in
    record {
      puts = λ l most start first.
          as_allowed (Fair most) l c.args.rounds c.loop-before.before c.loop-before.machine _ _ (c.loop-before.invariant.put l most start first) end;
      guard = λ l most start first k fewest.
          c.loop-before.invariant.guard l most start first
          ∙ (ap (guard_behind (Fair most) l) end
          ∙ ap (guard_behind (Fair most) l) (fewest_once (Fair most) l c.args.rounds c.args.rounds k
          (all_allowed (Fair most) l c.args.rounds c.loop-before.machine
          (subst (λ (n : ℕ). HasMade (Fair most) l n c.loop-before.machine) end (c.loop-before.invariant.put l most start first).made)) fewest));
    }
