use Rattle.std.proofs.Common.{◌∙◌, ap, arith, refl}
use Rattle.std.proofs.lemmas.List.{get_or_default, with_items_is}
use Rattle.network_rounds.specs.Flags.{nowhere, told_places}
use Rattle.network_rounds.proofs.Told.{tells_places, tells_none, places_few}
use Rattle.network_rounds.proofs.flags.Flags.tell_channel.Goals as goal

pub returns-then-x-len-clause-flags : goal.returns-then-x-len-clause-flags
returns-then-x-len-clause-flags g c = λ untold choices h.
    tells_none untold c.args.machine.now choices c.args.x c.args.self.now
    (let past = c.if-x-len.true in let len = c.len.ensures ∙ c.args.self.now.places.ok.0 in omega (arith, past, len)) (places_few c.args.self.now) h

pub returns-clause-flags : goal.returns-clause-flags
returns-clause-flags g c = λ untold choices h.
    tells_places untold c.args.machine.now choices c.args.x c.lets-lets.result c.index-places.result.now c.args.self.now _
    (c.index-places.ensures ∙ get_or_default c.args.self.now.places.items c.args.x c.index-places.result.now nowhere
    (let low = c.if-x-len.false in let len = c.len.ensures ∙ c.args.self.now.places.ok.0 in omega (arith, low, len)))
    (places_few c.args.self.now) c.lets-lets.ensures
    (with_items_is c.args.self.now.up c.tell_places.new.up (c.tell_places.auto.up ∙ c.deref_mut.ensures.len)
    ∙ (c.tell_places.ensures ∙ ap (λ us. told_places us c.index-places.result.now c.lets-lets.result) c.deref_mut.ensures.value))
    refl h
