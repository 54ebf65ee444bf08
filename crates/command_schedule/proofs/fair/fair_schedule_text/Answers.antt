-- What is put of the rounds and behind them is the schedule.
use Rattle.std.proofs.Common.{◌≡◌, ℕ, Result, Ok, ap, sym, subst, ◌∙◌}
use Rattle.std.proofs.lemmas.Result.{err_from_is_err_and}
use Rattle.std.specs.Str.Lines.{lines}
use Rattle.lexer.specs.declared.fault.LineFault.{LineFault}
use Rattle.one_order.specs.Load.{Load}
use Rattle.machine_core.specs.Loading.{HasLoaded, load_by}
use Rattle.fair_rounds.specs.declared.pacing.Pace.TheVariants.{Fair}
use Rattle.fair_rounds.specs.Fewest.{AreFewestPaced}
use Rattle.fair_rounds.specs.Guard.{Guarding}
use Rattle.fair_rounds.specs.Paces.{guard_behind}
use Rattle.command_schedule.proofs.HeldBack.{same_load}
use Rattle.command_schedule.proofs.Told.{rounds_front, rounds_last, rounds_whole}
use Rattle.command_schedule.proofs.fair.fair_schedule_text.Goals as goal

pub returns-in_err-put_fair_rounds-clause-prints : goal.returns-in_err-put_fair_rounds-clause-prints
returns-in_err-put_fair_rounds-clause-prints g c =
    let p = err_from_is_err_and c.from_residual-in_err-put_fair_rounds.result c.from_residual-in_err-put_fair_rounds.ensures.1 in
    let asked : Result Load LineFault = load_by (lines c.args.machine.now) (lines c.args.scripts.now) in
    let loaded : HasLoaded asked c.in_ok-machine.machine = c.in_ok-machine.ensures.ok in
    rw (p.1, p.2) (rounds_front (Fair c.args.most) asked c.args.rounds c.in_ok-machine.machine loaded _ _ c.ranges.rounds.fits
    (c.in_err-put_fair_rounds.ensures.puts loaded.load c.args.most loaded.after c.first_of-guard.ensures))

pub returns-in_err-finished-clause-prints : goal.returns-in_err-finished-clause-prints
returns-in_err-finished-clause-prints g c =
    let p = err_from_is_err_and c.from_residual-in_err-finished.result c.from_residual-in_err-finished.ensures.1 in
    let asked : Result Load LineFault = load_by (lines c.args.machine.now) (lines c.args.scripts.now) in
    let loaded : HasLoaded asked c.in_ok-machine.machine = c.in_ok-machine.ensures.ok in
    rw (p.1, p.2) (rounds_last (Fair c.args.most) asked c.args.rounds c.in_ok-machine.machine loaded c.put_fair_rounds.new.machine _ _ _ c.ranges.rounds.fits
    (c.in_ok-put_fair_rounds.ensures.puts loaded.load c.args.most loaded.after c.first_of-guard.ensures) c.in_err-finished.ensures.took)

pub returns : goal.returns
returns g c =
    let asked : Result Load LineFault = load_by (lines c.args.machine.now) (lines c.args.scripts.now) in
    let loaded : HasLoaded asked c.in_ok-machine.machine = c.in_ok-machine.ensures.ok in
    record {
      prints = rounds_whole (Fair c.args.most) asked c.args.rounds c.in_ok-machine.machine loaded c.put_fair_rounds.new.machine c.in_ok-finished.finished
          _ _ _ c.ranges.rounds.fits
          (c.in_ok-put_fair_rounds.ensures.puts loaded.load c.args.most loaded.after c.first_of-guard.ensures) c.in_ok-finished.ensures.value
          c.in_ok-finished.ensures.took;
      held = λ l k read fewest.
          c.held_rounds.ensures
          ∙ (ap (λ (guard : Guarding). guard.held)
          (c.in_ok-put_fair_rounds.ensures.guard loaded.load c.args.most loaded.after c.first_of-guard.ensures k
          (subst (λ (x : Load). AreFewestPaced (Fair c.args.most) x c.args.rounds k) (same_load asked l loaded.load read loaded.read) fewest))
          ∙ ap (λ (x : Load). (guard_behind (Fair c.args.most) x k).held) (sym (same_load asked l loaded.load read loaded.read)));
    }
