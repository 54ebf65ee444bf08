use Rattle.std.proofs.Common.{ℕ, List, [], take, sym, subst}
use Rattle.network_rounds.specs.Attempts.{AddsEnabled, AddsMade}
use Rattle.network_rounds.specs.Rounds.{turned_groups}
use Rattle.network_rounds.specs.Flags.{AreIdleWhereDown, choices_of}
use Rattle.network_rounds.proofs.Told.{idle}
use Rattle.network_rounds.proofs.Lists.{adds_enabled, round_of, run_of, items_of}
use Rattle.network_rounds.proofs.round.clocked_round.Goals as goal

pub returns-clause-round : goal.returns-clause-round
returns-clause-round g c =
    let old = c.args.machine.now in
    let new = c.attempt_moves.new.machine in
    let lasts = c.args.grants.now.lasts.items in
    let later = c.attempt_moves.new.grants.lasts.items in
    let tried = take c.choose-chosen.result c.choose-chosen.new.attempts in
    let made = take c.attempt_moves.result c.attempt_moves.new.made in
    let adds : AddsMade old new lasts later tried [] made =
    subst (λ (ls : List ℕ). AddsMade old new ls later tried [] made) (items_of _ _ c.choose-chosen.ensures.lasts) c.attempt_moves.ensures.adds in
    round_of c.args.by old new lasts later _ _ tried made
    (adds_enabled old _ _ _ _ _ c.pick_moves-sending.ensures.adds
    (subst (λ (t : ℕ). AddsEnabled old (turned_groups t c.args.groups.now) (take c.pick_moves-sending.result c.pick_moves-sending.new.enabled)
    (take c.pick_groups-count.result c.pick_groups-count.new.enabled)) c.turn-turn.ensures
    c.pick_groups-count.ensures.adds)) c.choose-chosen.ensures.attempts adds

pub returns-clause-runs : goal.returns-clause-runs
returns-clause-runs g c = run_of c.args.machine.now c.attempt_moves.new.machine _ _ _ _ c.attempt_moves.ensures.adds

pub pick_groups-count-requires-clause-idle : goal.pick_groups-count-requires-clause-idle
pick_groups-count-requires-clause-idle g c =
    let choices = choices_of c.args.groups.now in
    subst (AreIdleWhereDown c.args.machine.now choices) (sym c.deref.ensures.value) (idle c.args.machine.now choices c.args.flags.now c.requires.flags)
