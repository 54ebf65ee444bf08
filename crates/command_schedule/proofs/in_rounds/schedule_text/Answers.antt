-- What is put of the rounds and behind them is the schedule.
use Rattle.std.proofs.Common.{Result, ap, ◌∙◌}
use Rattle.std.proofs.lemmas.Result.{err_from_is_err_and}
use Rattle.std.specs.Str.Lines.{lines}
use Rattle.lexer.specs.declared.fault.LineFault.{LineFault}
use Rattle.one_order.specs.Load.{Load}
use Rattle.core_laws.specs.Core.{round}
use Rattle.machine_core.specs.Loading.{HasLoaded, load_by}
use Rattle.fair_rounds.specs.declared.pacing.Pace.TheVariants.{InOrder}
use Rattle.command_schedule.proofs.Told.{rounds_front, rounds_last, rounds_whole}
use Rattle.command_schedule.proofs.in_rounds.schedule_text.Goals as goal

pub put_rounds-requires : goal.put_rounds-requires
put_rounds-requires g c = c.deref.ensures.value ∙ (c.in_ok-round.ensures.round ∙ ap round c.torus.ensures)

pub returns-in_err-put_rounds : goal.returns-in_err-put_rounds
returns-in_err-put_rounds g c =
    let p = err_from_is_err_and c.from_residual-in_err-put_rounds.result c.from_residual-in_err-put_rounds.ensures.1 in
    let asked : Result Load LineFault = load_by (lines c.args.machine.now) (lines c.args.scripts.now) in
    let loaded : HasLoaded asked c.in_ok-machine.machine = c.in_ok-machine.ensures.ok in
    rw (p.1, p.2) (rounds_front InOrder asked c.args.rounds c.in_ok-machine.machine loaded _ _ c.ranges.rounds.fits
    (c.in_err-put_rounds.ensures loaded.load loaded.after))

pub returns-in_err-finished : goal.returns-in_err-finished
returns-in_err-finished g c =
    let p = err_from_is_err_and c.from_residual-in_err-finished.result c.from_residual-in_err-finished.ensures.1 in
    let asked : Result Load LineFault = load_by (lines c.args.machine.now) (lines c.args.scripts.now) in
    let loaded : HasLoaded asked c.in_ok-machine.machine = c.in_ok-machine.ensures.ok in
    rw (p.1, p.2) (rounds_last InOrder asked c.args.rounds c.in_ok-machine.machine loaded c.put_rounds.new.machine _ _ _ c.ranges.rounds.fits
    (c.in_ok-put_rounds.ensures loaded.load loaded.after) c.in_err-finished.ensures.took)

pub returns : goal.returns
returns g c =
    let asked : Result Load LineFault = load_by (lines c.args.machine.now) (lines c.args.scripts.now) in
    let loaded : HasLoaded asked c.in_ok-machine.machine = c.in_ok-machine.ensures.ok in
    rounds_whole InOrder asked c.args.rounds c.in_ok-machine.machine loaded c.put_rounds.new.machine c.in_ok-finished.finished _ _ _ c.ranges.rounds.fits
    (c.in_ok-put_rounds.ensures loaded.load loaded.after) c.in_ok-finished.ensures.value c.in_ok-finished.ensures.took
