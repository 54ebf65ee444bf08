use Rattle.std.proofs.Common.{length, refl, sym, subst}
use Rattle.std.proofs.lemmas.Option.{slice_get_read}
use Rattle.std.proofs.lemmas.Result.{err_from_is_err_and}
use Rattle.trace_watch.specs.declared.state.Effect.{Effect}
use Rattle.trace_watch.specs.States.{config_of, configs_of}
use Rattle.trace_watch.specs.Matchings.{IsAlone}
use Rattle.trace_watch.proofs.Crowding.{one_gives_up}
use Rattle.trace_watch.proofs.Grown.{get_config}
use Rattle.trace_watch.proofs.Loops.{attempt_idle, attempt_new, attempt_none}
use Rattle.trace_watch.proofs.closing.attempt.Goals as goal

pub returns-then-is_idle-clause-expands : goal.returns-then-is_idle-clause-expands
returns-then-is_idle-clause-expands g c =
    attempt_idle c.args.at c.args.calls.now c.args.call c.args.found.now.items c.index-state.result.now
    (slice_get_read c.args.found.now.items (length c.args.found.now.items) c.args.at c.index-state.result.now refl
    c.requires.inside c.index-state.ensures) c.if-is_idle.ensures

pub returns-in_err-add_within-clause-full : goal.returns-in_err-add_within-clause-full
returns-in_err-add_within-clause-full g c =
    let p = err_from_is_err_and c.from_residual-in_err-add_within.result c.from_residual-in_err-add_within.ensures.1 in
    let there = slice_get_read c.args.found.now.items (length c.args.found.now.items) c.args.at c.index-state.result.now
    refl c.requires.inside c.index-state.ensures in
    rw (p.1, p.2) (λ e.
    let r = c.in_err-add_within.ensures.full e in
    one_gives_up c.args.at c.args.calls.now c.args.call c.args.bound (configs_of c.args.found.now.items)
    (configs_of c.add_within.new.found.items)
    (attempt_new c.args.at c.args.calls.now c.args.calls.now c.args.call c.args.taken.now c.args.found.now.items
    c.add_within.new.found.items c.index-state.result.now c.in_ok-next.next _ there c.if-is_idle.ensures
    c.effect_of.ensures
    (c.requires.partners (config_of c.index-state.result.now)
    (get_config c.args.found.now.items c.args.at c.index-state.result.now there))
    (c.if-not-is_left.ensures.yes refl) refl c.in_ok-next.ensures r.0) r.1)

pub returns-clause-expands : goal.returns-clause-expands
returns-clause-expands g c =
    let there = slice_get_read c.args.found.now.items (length c.args.found.now.items) c.args.at c.index-state.result.now
    refl c.requires.inside c.index-state.ensures in
    attempt_new c.args.at c.args.calls.now c.args.calls.now c.args.call c.args.taken.now c.args.found.now.items
    c.add_within.new.found.items c.index-state.result.now c.in_ok-next.next _ there c.if-is_idle.ensures
    c.effect_of.ensures
    (c.requires.partners (config_of c.index-state.result.now)
    (get_config c.args.found.now.items c.args.at c.index-state.result.now there))
    (c.if-not-is_left.ensures.yes refl) refl c.in_ok-next.ensures c.in_ok-add_within.ensures.added

pub returns-then-not-is_left-clause-expands : goal.returns-then-not-is_left-clause-expands
returns-then-not-is_left-clause-expands g c =
    let there = slice_get_read c.args.found.now.items (length c.args.found.now.items) c.args.at c.index-state.result.now
    refl c.requires.inside c.index-state.ensures in
    attempt_none c.args.at c.args.calls.now c.args.call c.args.taken.now c.args.found.now.items c.index-state.result.now _
    there c.if-is_idle.ensures c.effect_of.ensures
    (c.requires.partners (config_of c.index-state.result.now)
    (get_config c.args.found.now.items c.args.at c.index-state.result.now there)) (c.if-not-is_left.ensures.no refl)

pub is_left-requires-clause-alone : goal.is_left-requires-clause-alone
is_left-requires-clause-alone g c = λ yes.
    subst (λ (e : Effect). IsAlone c.args.calls.now e.op e.newest) (sym c.effect_of.ensures) (c.requires.alone yes)
