-- What is kept of the attempts is the round, of which the guard may hold operations back.
use Rattle.std.proofs.Common.{◌≡◌, ◌+◌, List, Bool, Some, ap, subst, take, ◌∙◌}
use Rattle.std.specs.Prelude.{OnOk}
use Rattle.torus.specs.declared.step.Step.{Step}
use Rattle.core_laws.specs.Machine.{core_after}
use Rattle.core_laws.specs.MachineMoves.{moves_from}
use Rattle.machine_core.specs.Arbiters.{arbited_round}
use Rattle.machine_core.specs.Guarded.{guarded_round, held_back}
use Rattle.machine_core.specs.Oldest.{oldest}
use Rattle.fair_rounds.specs.Guard.{holds}
use Rattle.program_fault.specs.Done.{output}
use Rattle.command_schedule.specs.Line.{text_of}
use Rattle.command_schedule.specs.Output.{Took, headed}
use Rattle.command_schedule.proofs.fair.put_fair_round.Goals as goal

pub returns-clause-machine : goal.returns-clause-machine
returns-clause-machine g c =
    let kept : held_back c.watch-held.result c.args.machine.now (take c.keep_round-count.result c.keep_round-count.new.room)
    ≡ guarded_round oldest (holds c.args.guard.now c.args.machine.now) c.args.machine.now =
    ap (held_back c.watch-held.result c.args.machine.now) c.keep_round-count.ensures.kept
    ∙ ap (λ (held : Bool). held_back held c.args.machine.now (arbited_round oldest c.args.machine.now)) c.watch-held.ensures.held in
    subst (λ (xs : List Step). OnOk c.put_guarded.result (c.put_guarded.new.machine ≡ core_after c.args.machine.now xs)) kept
    c.put_guarded.ensures.machine

pub returns-clause-took : goal.returns-clause-took
returns-clause-took g c =
    let kept : held_back c.watch-held.result c.args.machine.now (take c.keep_round-count.result c.keep_round-count.new.room)
    ≡ guarded_round oldest (holds c.args.guard.now c.args.machine.now) c.args.machine.now =
    ap (held_back c.watch-held.result c.args.machine.now) c.keep_round-count.ensures.kept
    ∙ ap (λ (held : Bool). held_back held c.args.machine.now (arbited_round oldest c.args.machine.now)) c.watch-held.ensures.held in
    subst (λ (xs : List Step). Took (text_of (headed (Some (c.args.before + 1)) (moves_from c.args.machine.now xs)))
    (output (g.W.Out.taken c.args.out.now) (g.W.Out.failures c.args.out.now))
    (output (g.W.Out.taken c.put_guarded.new.out) (g.W.Out.failures c.put_guarded.new.out)) c.put_guarded.result) kept
    c.put_guarded.ensures.took
