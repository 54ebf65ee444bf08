use Rattle.std.proofs.Common.{length, take, sym, ◌∙◌, ap, subst, arith, ◌++◌}
use Rattle.std.proofs.lemmas.List.Sums.{sum_by_more_le}
use Rattle.network_rounds.specs.Flags.{AreNotedIn, choices_of}
use Rattle.network_rounds.proofs.Lists.{items_of}
use Rattle.network_rounds.proofs.Noted.{choices_more, choices_long, choices_count}
use Rattle.network_rounds.proofs.flags.note_groups.Goals as goal

pub note_group-requires : goal.note_group-requires
note_group-requires g c =
    let groups = c.args.groups.now in
    let shown = c.deref.ensures.value ∙ items_of _ _ c.index-groups-k.is in
    let size = ap length shown in
    let count = c.loop-k.invariant.count in
    let long = choices_long (take c.loop-k.k groups) in
    let more = sum_by_more_le (λ group. length group.items) groups c.loop-k.k c.index-groups-k.result c.loop-k-test.true in
    let few = c.requires.few in
    omega (arith, size, count, long, more, few)

pub overflow_add-from : goal.overflow_add-from
overflow_add-from g c =
    let groups = c.args.groups.now in
    let size = ap length (items_of _ _ c.index-groups-k-in-loop-k.is) in
    let len = c.len-from.ensures ∙ c.index-groups-k-in-loop-k.result.ok.0 in
    let count = c.loop-k.invariant.count in
    let long = choices_long (take c.loop-k.k groups) in
    let more = sum_by_more_le (λ group. length group.items) groups c.loop-k.k c.index-groups-k-in-loop-k.result c.loop-k-test.true in
    let few = c.requires.few in
    omega (arith, size, len, count, long, more, few)

pub loop-k-preserved : goal.loop-k-preserved
loop-k-preserved g c =
    let groups = c.args.groups.now in
    let k = c.loop-k.k in
    let group = c.index-groups-k.result in
    record {
      count = choices_count groups k c.loop-k.from c.len-from.result c.index-groups-k-in-loop-k.result c.loop-k-test.true c.index-groups-k-in-loop-k.is
          c.loop-k.invariant.count c.len-from.ensures;
      noted = λ none.
          (let shown = c.deref.ensures.value ∙ items_of _ _ c.index-groups-k.is in
          subst (AreNotedIn c.note_group.new.places) (ap (λ ms. choices_of (take k groups) ++ ms) shown ∙ sym (choices_more groups k group c.loop-k-test.true))
          (c.note_group.ensures (choices_of (take k groups)) (sym c.loop-k.invariant.count) (c.loop-k.invariant.noted none)));
    }
