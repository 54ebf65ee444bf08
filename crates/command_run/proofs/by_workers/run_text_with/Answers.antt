-- What is printed of the end of the workers' run is printed of a run of what was asked for.
use Rattle.std.proofs.Common.{Result, subst, sym}
use Rattle.std.proofs.lemmas.Result.{err_from_is_err_and}
use Rattle.std.specs.Str.Lines.{lines}
use Rattle.lexer.specs.declared.fault.LineFault.{LineFault}
use Rattle.one_order.specs.Load.{Load}
use Rattle.program_fault.specs.Outcome.{IsReadFault, IsTextsFault}
use Rattle.command_texts.specs.Run.{IsNoFault}
use Rattle.machine_core.specs.Loading.{HasLoaded, load_by}
use Rattle.command_run.specs.Ends.{IsShownEnd}
use Rattle.command_run.specs.Workers.{IsMadeByWorkers, IsOfEnded, IsWorkersText}
use Rattle.command_texts.proofs.Asked.{does_more}
use Rattle.command_run.proofs.ByWorkers.{workers_printed}
use Rattle.command_run.proofs.Watched.{no_workers_told, workers_told}
use Rattle.command_run.proofs.by_workers.run_text_with.Goals as goal

pub returns-clause-prints : goal.returns-clause-prints
returns-clause-prints g c =
    let asked : Result Load LineFault = load_by (lines c.args.machine.now) (lines c.args.scripts.now) in
    let loaded : HasLoaded asked c.in_ok-machine.machine = c.in_ok-machine.ensures.ok in
    let made : IsMadeByWorkers loaded.load c.args.workers c.args.turns c.in_ok-end.end = c.in_ok-end.ensures.run loaded.load loaded.after in
    does_more (IsOfEnded c.in_ok-end.end) (IsWorkersText asked c.args.workers c.args.turns) IsNoFault (IsTextsFault asked) _ _ c.print_end.result
    (λ finished text printed. workers_printed asked c.args.workers c.args.turns c.in_ok-machine.machine c.in_ok-end.end finished text loaded made
    c.steps_lead_to_a_machine.ensures.after c.ended_followers_finish_scripts.ensures printed)
    (λ e h. absurd h) c.print_end.ensures

pub returns-clause-told : goal.returns-clause-told
returns-clause-told g c =
    let asked : Result Load LineFault = load_by (lines c.args.machine.now) (lines c.args.scripts.now) in
    let loaded : HasLoaded asked c.in_ok-machine.machine = c.in_ok-machine.ensures.ok in
    workers_told asked c.args.workers c.args.turns (g.V.Watch.over c.args.watch.now) loaded.load loaded.read
    (c.in_ok-end.ensures.told loaded.load loaded.after) c.print_end.result

pub returns-in_err-machine-clause-told : goal.returns-in_err-machine-clause-told
returns-in_err-machine-clause-told g c =
    let p = err_from_is_err_and c.from_residual.result c.from_residual.ensures.1 in
    let asked : Result Load LineFault = load_by (lines c.args.machine.now) (lines c.args.scripts.now) in
    rw p.1 (no_workers_told asked c.args.workers c.args.turns (g.V.Watch.over c.args.watch.now) p.0
    (subst (IsReadFault asked) (sym p.2) c.in_err-machine.ensures.err))

pub returns-clause-ends : goal.returns-clause-ends
returns-clause-ends g c =
    let asked : Result Load LineFault = load_by (lines c.args.machine.now) (lines c.args.scripts.now) in
    let loaded : HasLoaded asked c.in_ok-machine.machine = c.in_ok-machine.ensures.ok in
    does_more (IsOfEnded c.in_ok-end.end) (IsShownEnd asked c.args.workers c.args.turns (g.E.Ending.saw c.shown.new.self)) IsNoFault (IsTextsFault asked) _ _
    c.print_end.result
    (λ finished text printed. record {
      load = loaded.load;
      read = loaded.read;
      end = c.in_ok-end.end;
      made = c.in_ok-end.ensures.run loaded.load loaded.after;
      report = printed.is;
      seen = c.shown.ensures;
    })
    (λ e h. absurd h) c.print_end.ensures
