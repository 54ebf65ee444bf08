-- What is kept of the attempts at this turn is the clocked round.
use Rattle.std.proofs.Common.{◌≡◌, ◌+◌, List, Some, ap, arith, length, subst, take}
use Rattle.std.specs.Prelude.{OnOk}
use Rattle.torus.specs.declared.step.Step.{Step}
use Rattle.core_laws.specs.Machine.{core_after}
use Rattle.core_laws.specs.MachineMoves.{moves_from}
use Rattle.machine_core.specs.Clocked.{clocked_round}
use Rattle.program_fault.specs.Done.{output}
use Rattle.command_schedule.specs.Line.{text_of}
use Rattle.command_schedule.specs.Output.{Took, headed}
use Rattle.command_schedule.proofs.Turned.{kept_round, turns_count}
use Rattle.command_schedule.proofs.clocked.put_clocked_round.Goals as goal

pub attempts_at-attempts-requires : goal.attempts_at-attempts-requires
attempts_at-attempts-requires g c = omega (arith, turns_count c.args.machine.now.shape c.args.turned.now c.requires.turned)

pub keep_enabled-count-requires : goal.keep_enabled-count-requires
keep_enabled-count-requires g c =
    let at = ap length (c.attempts_at-attempts.ensures c.args.machine.now.shape c.requires.turned) in
    omega (arith, at, c.requires.room c.args.before)

pub returns-clause-machine : goal.returns-clause-machine
returns-clause-machine g c =
    let kept : take c.keep_enabled-count.result c.keep_enabled-count.new.room ≡ clocked_round c.args.machine.now c.args.before =
    kept_round c.args.machine.now c.args.before c.keep_enabled-count.result c.attempts_at-attempts.result.now c.keep_enabled-count.new.room
    (c.attempts_at-attempts.ensures c.args.machine.now.shape c.requires.turned) c.keep_enabled-count.ensures.kept in
    subst (λ (xs : List Step). OnOk c.put_moves.result (c.put_moves.new.machine ≡ core_after c.args.machine.now xs)) kept
    c.put_moves.ensures.machine

pub returns-clause-took : goal.returns-clause-took
returns-clause-took g c =
    let kept : take c.keep_enabled-count.result c.keep_enabled-count.new.room ≡ clocked_round c.args.machine.now c.args.before =
    kept_round c.args.machine.now c.args.before c.keep_enabled-count.result c.attempts_at-attempts.result.now c.keep_enabled-count.new.room
    (c.attempts_at-attempts.ensures c.args.machine.now.shape c.requires.turned) c.keep_enabled-count.ensures.kept in
    subst (λ (xs : List Step). Took (text_of (headed (Some (c.args.before + 1)) (moves_from c.args.machine.now xs)))
    (output (g.W.Out.taken c.args.out.now) (g.W.Out.failures c.args.out.now))
    (output (g.W.Out.taken c.put_moves.new.out) (g.W.Out.failures c.put_moves.new.out)) c.put_moves.result) kept
    c.put_moves.ensures.took
