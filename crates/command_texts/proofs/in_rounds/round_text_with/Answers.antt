-- What is printed of the machine is printed of the run in rounds, and who watched was told of these rounds.
use Rattle.std.proofs.Common.{◌≡◌, ◌-◌, ℕ, Result, ap, subst, sym, ◌∙◌}
use Rattle.std.proofs.lemmas.Result.{err_from_is_err_and}
use Rattle.std.specs.Str.Lines.{lines}
use Rattle.lexer.specs.declared.fault.LineFault.{LineFault}
use Rattle.one_order.specs.Load.{Load}
use Rattle.fair_rounds.specs.Fewest.{paced_rounds}
use Rattle.core_laws.specs.ProgressMoves.{moves_made}
use Rattle.program_fault.specs.Outcome.{IsReadFault, IsTextsFault}
use Rattle.command_texts.specs.Run.{IsNoFault, IsRunOfMachine}
use Rattle.machine_core.specs.Loading.{HasLoaded, load_by}
use Rattle.command_texts.specs.Ends.{HasEndedRounds, ShowsReached}
use Rattle.command_texts.specs.Rounds.{HasMadeRounds, IsRoundText}
use Rattle.command_texts.specs.Telling.{AreRoundsCalls, AreRunCalls, HearsPaced, HearsSome}
use Rattle.command_texts.proofs.Asked.{does_more}
use Rattle.fair_rounds.proofs.Paced.{fewest_once}
use Rattle.command_texts.proofs.InRounds.{rounds_printed}
use Rattle.command_texts.proofs.Telling.{moved_since, none_told, run_told}
use Rattle.command_texts.proofs.in_rounds.round_text_with.Goals as goal

pub returns-in_err-machine-clause-told : goal.returns-in_err-machine-clause-told
returns-in_err-machine-clause-told g c =
    let p = err_from_is_err_and c.from_residual.result c.from_residual.ensures.1 in
    let asked : Result Load LineFault = load_by (lines c.args.machine.now) (lines c.args.scripts.now) in
    rw p.1 (none_told asked (AreRunCalls c.args.pace asked c.args.rounds) (g.P.Progress.heard c.args.progress.now) p.0 (subst (IsReadFault asked) (sym p.2) c.in_err-machine.ensures.err))

pub returns-clause-prints : goal.returns-clause-prints
returns-clause-prints g c =
    let asked : Result Load LineFault = load_by (lines c.args.machine.now) (lines c.args.scripts.now) in
    let loaded : HasLoaded asked c.in_ok-machine.machine = c.in_ok-machine.ensures.ok in
    let made : HasMadeRounds c.args.pace loaded.load c.args.rounds c.make_rounds-held.new.machine = c.make_rounds-held.ensures.made loaded.load loaded.after in
    does_more (IsRunOfMachine c.make_rounds-held.new.machine) (IsRoundText c.args.pace asked c.args.rounds) IsNoFault (IsTextsFault asked) _ _ c.print_run.result
    (λ finished text printed. rounds_printed c.args.pace asked c.args.rounds c.in_ok-machine.machine c.make_rounds-held.new.machine finished text loaded made
    c.steps_decide_the_machine.ensures.named printed)
    (λ e h. absurd h) c.print_run.ensures

pub returns-clause-told : goal.returns-clause-told
returns-clause-told g c =
    let asked : Result Load LineFault = load_by (lines c.args.machine.now) (lines c.args.scripts.now) in
    let loaded : HasLoaded asked c.in_ok-machine.machine = c.in_ok-machine.ensures.ok in
    let paced : HearsPaced c.args.pace loaded.load c.args.rounds c.make_rounds-held.result (g.P.Progress.heard c.args.progress.now) (g.P.Progress.heard c.make_rounds-held.new.progress) =
    c.make_rounds-held.ensures.told loaded.load loaded.after in
    let heard : HearsSome (AreRoundsCalls c.args.pace loaded.load c.args.rounds) (g.P.Progress.heard c.args.progress.now) (g.P.Progress.heard c.make_rounds-held.new.progress) =
    paced.heard in
    let made : HasMadeRounds c.args.pace loaded.load c.args.rounds c.make_rounds-held.new.machine = c.make_rounds-held.ensures.made loaded.load loaded.after in
    let same : made.rounds ≡ heard.1.rounds = fewest_once c.args.pace loaded.load c.args.rounds made.rounds heard.1.rounds made.fewest heard.1.fewest in
    let moves : c.moves_since.result ≡ moves_made loaded.load (paced_rounds c.args.pace loaded.load heard.1.rounds) =
    c.moves_since.ensures
    ∙ (ap (λ (n : ℕ). n - c.make_rounds-held.new.machine.moves_left) c.moves_left-most.ensures.value
    ∙ (moved_since loaded.load c.in_ok-machine.machine c.make_rounds-held.new.machine (paced_rounds c.args.pace loaded.load made.rounds) loaded.after made.after
    c.moves_are_counted.ensures.all
    ∙ ap (λ (k : ℕ). moves_made loaded.load (paced_rounds c.args.pace loaded.load k)) same)) in
    run_told c.args.pace asked c.args.rounds c.moves_since.result c.in_ok-machine.machine loaded
    (g.P.Progress.heard c.args.progress.now) (g.P.Progress.heard c.make_rounds-held.new.progress) (g.P.Progress.heard c.ended.new.self)
    heard moves c.make_rounds-held.result paced.back c.ended.ensures
    (IsRunOfMachine c.make_rounds-held.new.machine) _ _ c.print_run.result c.print_run.ensures

pub returns-clause-ends : goal.returns-clause-ends
returns-clause-ends g c =
    let asked : Result Load LineFault = load_by (lines c.args.machine.now) (lines c.args.scripts.now) in
    let loaded : HasLoaded asked c.in_ok-machine.machine = c.in_ok-machine.ensures.ok in
    let made : HasMadeRounds c.args.pace loaded.load c.args.rounds c.make_rounds-held.new.machine = c.make_rounds-held.ensures.made loaded.load loaded.after in
    does_more (IsRunOfMachine c.make_rounds-held.new.machine) (ShowsReached (HasEndedRounds c.args.pace asked c.args.rounds) (g.E.Ending.saw c.shown.new.self)) IsNoFault
    (IsTextsFault asked) _ _ c.print_run.result
    (λ finished text printed. record {
      end = c.make_rounds-held.new.machine;
      is = (loaded.load, loaded.read, made);
      report = printed.is;
      seen = c.shown.ensures;
    })
    (λ e h. absurd h) c.print_run.ensures
