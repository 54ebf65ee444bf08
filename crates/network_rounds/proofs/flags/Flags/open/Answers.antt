use Rattle.std.proofs.Common.{◌≡◌, [], List, length, sym, ◌∙◌, ap, subst, arith}
use Rattle.std.specs.Prelude.{replicate}
use Rattle.std.specs.Vec.{with_items}
use Rattle.std.proofs.lemmas.List.{with_items_is}
use Rattle.network_rounds.specs.declared.flags.Places.{Places}
use Rattle.network_rounds.specs.Flags.{AreNotedIn, choices_of, nowhere}
use Rattle.network_rounds.proofs.Noted.{flags_at_first, notes_at_first, choices_long}
use Rattle.network_rounds.proofs.flags.Flags.open.Goals as goal

pub returns : goal.returns
returns g c = λ m is.
    let choices = choices_of c.args.groups.now in
    let fresh : c.in_ok-places.places.items ≡ replicate c.args.channels nowhere = c.in_ok-places.ensures.items_if_clones_equal (λ y e. e) in
    let long : length c.note_groups-count.new.places ≡ c.in_ok-places.places.len = c.note_groups-count.auto.places ∙ c.deref_mut.ensures.len in
    let kept = with_items_is c.in_ok-places.places c.note_groups-count.new.places long in
    flags_at_first m choices c.args.channels c.note_groups-count.result
    (record { up = c.in_ok-up.up; places = with_items c.in_ok-places.places c.note_groups-count.new.places })
    (let all = choices_long c.args.groups.now in let few = c.requires.few in omega (arith, all, few))
    (ap length kept ∙ (long ∙ c.in_ok-places.ensures.len)) (c.in_ok-up.ensures.items_if_clones_equal (λ y e. e)) c.note_groups-count.ensures.count
    (subst (λ (ps : List Places). AreNotedIn ps choices) (sym kept)
    (c.note_groups-count.ensures.places (subst (λ (ps : List Places). AreNotedIn ps []) (sym (c.deref_mut.ensures.value ∙ fresh))
    (notes_at_first c.args.channels [])))) is
