use Rattle.std.proofs.Common.{[], ◌∷◌, ◌++◌, sym, ◌∙◌, ap, subst, arith, get_or}
use Rattle.std.specs.Prelude.{slice_set}
use Rattle.std.proofs.lemmas.List.{get_or_default}
use Rattle.network_rounds.specs.Flags.{AreNotedIn, nowhere}
use Rattle.network_rounds.proofs.Noted.{notes_one, notes_none}
use Rattle.network_rounds.proofs.flags.note_place.Goals as goal

pub returns-then-x-places : goal.returns-then-x-places
returns-then-x-places c = λ choices long h.
    let places = c.args.places.now in
    let x = c.channel-x.result in
    subst (λ z. AreNotedIn (slice_set places z c.with_place.result) (choices ++ c.args.of ∷ [])) (sym c.channel-x.ensures)
    (notes_one places choices c.args.of c.args.place c.with_place.result _
    (let low = c.if-x-places.true in let at = c.channel-x.ensures in omega (arith, low, at))
    (get_or_default places x _ nowhere c.if-x-places.true ∙ ap (λ z. get_or places z nowhere) c.channel-x.ensures) long c.with_place.ensures h)

pub returns-else-x-places : goal.returns-else-x-places
returns-else-x-places c = λ choices long h. notes_none c.args.places.now choices (c.args.of ∷ []) h
