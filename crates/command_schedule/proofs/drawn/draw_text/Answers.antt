-- What is put of the drawn moves and behind them is their schedule.
use Rattle.std.proofs.Common.{◌≡◌, Result, ap, ◌∙◌}
use Rattle.std.specs.Prelude.{unwrap_or}
use Rattle.std.proofs.lemmas.Result.{err_from_is_err_and}
use Rattle.std.specs.Str.Lines.{lines}
use Rattle.lexer.specs.declared.fault.LineFault.{LineFault}
use Rattle.one_order.specs.Load.{Load}
use Rattle.core_laws.specs.Core.{round}
use Rattle.machine_core.specs.Loading.{load_by}
use Rattle.command_schedule.proofs.DrawTold.{draw_begun, draw_last, draw_whole}
use Rattle.command_schedule.proofs.drawn.draw_text.Given.{Over}
use Rattle.command_schedule.proofs.drawn.draw_text.Goals as goal

pub put_drawn-requires : goal.put_drawn-requires
put_drawn-requires g c = c.deref.ensures.value ∙ (c.in_ok-round.ensures.round ∙ ap round c.torus.ensures)

pub returns-in_err-put_drawn : goal.returns-in_err-put_drawn
returns-in_err-put_drawn g c =
    let p = err_from_is_err_and c.from_residual-in_err-put_drawn.result c.from_residual-in_err-put_drawn.ensures.1 in
    let asked : Result Load LineFault = load_by (lines c.args.machine.now) (lines c.args.scripts.now) in
    rw (p.1, p.2) (draw_begun asked c.args.seed c.args.most c.in_ok-machine.machine c.in_ok-machine.ensures.ok c.unwrap_or-most.result
    (c.unwrap_or-most.ensures ∙ ap (unwrap_or c.args.most) c.moves_left.ensures.value) _ _ c.in_err-put_drawn.ensures.took)

pub returns-in_err-finished : goal.returns-in_err-finished
returns-in_err-finished g c =
    let p = err_from_is_err_and c.from_residual-in_err-finished.result c.from_residual-in_err-finished.ensures.1 in
    let asked : Result Load LineFault = load_by (lines c.args.machine.now) (lines c.args.scripts.now) in
    rw (p.1, p.2) (draw_last asked c.args.seed c.args.most c.in_ok-machine.machine c.in_ok-machine.ensures.ok c.unwrap_or-most.result
    (c.unwrap_or-most.ensures ∙ ap (unwrap_or c.args.most) c.moves_left.ensures.value) c.put_drawn.new.machine _ _ _
    c.in_ok-put_drawn.ensures.machine c.in_ok-put_drawn.ensures.took c.in_err-finished.ensures.took)

pub returns : goal.returns
returns g c =
    let asked : Result Load LineFault = load_by (lines c.args.machine.now) (lines c.args.scripts.now) in
    draw_whole asked c.args.seed c.args.most c.in_ok-machine.machine c.in_ok-machine.ensures.ok c.unwrap_or-most.result
    (c.unwrap_or-most.ensures ∙ ap (unwrap_or c.args.most) c.moves_left.ensures.value) c.put_drawn.new.machine c.in_ok-finished.finished _ _ _
    c.in_ok-put_drawn.ensures.machine c.in_ok-finished.ensures.value c.in_ok-put_drawn.ensures.took c.in_ok-finished.ensures.took
