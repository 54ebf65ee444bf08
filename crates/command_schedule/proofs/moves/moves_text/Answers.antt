-- What is put of the moves and behind them is their schedule.
use Rattle.std.proofs.Common.{Result, sym, subst}
use Rattle.std.proofs.lemmas.Result.{err_from_is_err_and}
use Rattle.std.specs.Str.Lines.{lines}
use Rattle.lexer.specs.declared.fault.LineFault.{LineFault}
use Rattle.machine_core.specs.Run.{AskedRun, asked_of}
use Rattle.command_schedule.specs.Asked.{HasOpened}
use Rattle.command_schedule.proofs.Told.{moves_front, moves_last, moves_whole}
use Rattle.command_schedule.proofs.moves.moves_text.Goals as goal

pub returns-in_err-put_moves : goal.returns-in_err-put_moves
returns-in_err-put_moves g c =
    let p = err_from_is_err_and c.from_residual-in_err-put_moves.result c.from_residual-in_err-put_moves.ensures.1 in
    let asked : Result AskedRun LineFault = asked_of (lines c.args.machine.now) (lines c.args.scripts.now) (lines c.args.steps.now) in
    let opened : HasOpened asked c.in_ok-ready.ready.machine c.deref.result.now =
    subst (HasOpened asked c.in_ok-ready.ready.machine) (sym c.deref.ensures.value) c.in_ok-ready.ensures.ok in
    rw (p.1, p.2) (moves_front asked c.in_ok-ready.ready.machine c.deref.result.now opened _ _ c.in_err-put_moves.ensures.took)

pub returns-in_err-finished : goal.returns-in_err-finished
returns-in_err-finished g c =
    let p = err_from_is_err_and c.from_residual-in_err-finished.result c.from_residual-in_err-finished.ensures.1 in
    let asked : Result AskedRun LineFault = asked_of (lines c.args.machine.now) (lines c.args.scripts.now) (lines c.args.steps.now) in
    let opened : HasOpened asked c.in_ok-ready.ready.machine c.deref.result.now =
    subst (HasOpened asked c.in_ok-ready.ready.machine) (sym c.deref.ensures.value) c.in_ok-ready.ensures.ok in
    rw (p.1, p.2) (moves_last asked c.in_ok-ready.ready.machine c.deref.result.now opened c.put_moves.new.machine _ _ _
    c.in_ok-put_moves.ensures.machine c.in_ok-put_moves.ensures.took c.in_err-finished.ensures.took)

pub returns : goal.returns
returns g c =
    let asked : Result AskedRun LineFault = asked_of (lines c.args.machine.now) (lines c.args.scripts.now) (lines c.args.steps.now) in
    let opened : HasOpened asked c.in_ok-ready.ready.machine c.deref.result.now =
    subst (HasOpened asked c.in_ok-ready.ready.machine) (sym c.deref.ensures.value) c.in_ok-ready.ensures.ok in
    moves_whole asked c.in_ok-ready.ready.machine c.deref.result.now opened c.put_moves.new.machine c.in_ok-finished.finished _ _ _
    c.in_ok-put_moves.ensures.machine c.in_ok-finished.ensures.value c.in_ok-put_moves.ensures.took c.in_ok-finished.ensures.took
