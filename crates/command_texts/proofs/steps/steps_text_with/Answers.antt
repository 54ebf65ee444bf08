-- What is printed of the machine is printed of the run that was asked for, and who watches is told of its moves.
use Rattle.std.proofs.Common.{Result, subst, sym}
use Rattle.std.proofs.lemmas.Result.{err_from_is_err_and}
use Rattle.std.specs.Str.Lines.{lines}
use Rattle.lexer.specs.declared.fault.LineFault.{LineFault}
use Rattle.program_fault.specs.Outcome.{IsReadFault, IsTextsFault}
use Rattle.command_texts.specs.Ends.{ShowsReached}
use Rattle.command_texts.specs.Run.{AskedRun, HasRun, IsNoFault, IsRunOfMachine, IsRunText, asked_of}
use Rattle.command_texts.specs.Telling.{AreStepsCalls}
use Rattle.command_texts.proofs.Asked.{does_more, run_printed}
use Rattle.command_texts.proofs.Telling.{none_told, steps_told}
use Rattle.command_texts.proofs.steps.steps_text_with.Goals as goal

pub returns-in_err-machine-clause-told : goal.returns-in_err-machine-clause-told
returns-in_err-machine-clause-told g c =
    let p = err_from_is_err_and c.from_residual.result c.from_residual.ensures.1 in
    let asked : Result AskedRun LineFault = asked_of (lines c.args.machine.now) (lines c.args.scripts.now) (lines c.args.steps.now) in
    rw p.1 (none_told asked (AreStepsCalls asked) (g.P.Progress.heard c.args.progress.now) p.0
    (subst (IsReadFault asked) (sym p.2) c.in_err-machine.ensures.err))

pub returns-clause-prints : goal.returns-clause-prints
returns-clause-prints g c =
    let asked : Result AskedRun LineFault = asked_of (lines c.args.machine.now) (lines c.args.scripts.now) (lines c.args.steps.now) in
    does_more (IsRunOfMachine c.in_ok-machine.machine) (IsRunText asked) IsNoFault (IsTextsFault asked) _ _ c.print_run.result
    (λ finished text printed. run_printed asked c.in_ok-machine.machine finished text c.in_ok-machine.ensures.ok printed) (λ e h. absurd h) c.print_run.ensures

pub returns-clause-told : goal.returns-clause-told
returns-clause-told g c =
    let asked : Result AskedRun LineFault = asked_of (lines c.args.machine.now) (lines c.args.scripts.now) (lines c.args.steps.now) in
    steps_told asked c.in_ok-machine.moves c.in_ok-machine.ensures.moved (g.P.Progress.heard c.args.progress.now) (g.P.Progress.heard c.ended.new.self)
    c.ended.ensures (IsRunOfMachine c.in_ok-machine.machine) _ _ c.print_run.result c.print_run.ensures

pub returns-clause-ends : goal.returns-clause-ends
returns-clause-ends g c =
    let asked : Result AskedRun LineFault = asked_of (lines c.args.machine.now) (lines c.args.scripts.now) (lines c.args.steps.now) in
    does_more (IsRunOfMachine c.in_ok-machine.machine) (ShowsReached (HasRun asked) (g.E.Ending.saw c.shown.new.self)) IsNoFault (IsTextsFault asked) _ _
    c.print_run.result
    (λ finished text printed. record {
      end = c.in_ok-machine.machine;
      is = c.in_ok-machine.ensures.ok;
      report = printed.is;
      seen = c.shown.ensures;
    })
    (λ e h. absurd h) c.print_run.ensures
