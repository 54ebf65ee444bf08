use Rattle.std.proofs.Common.{◌∙◌, ap, arith, length}
use Rattle.std.proofs.lemmas.List.Sums.{sum_by_more, sum_by_more_le}
use Rattle.network_rounds.proofs.Lists.{group_adds, items_of}
use Rattle.network_rounds.proofs.Noted.{choices_count}
use Rattle.network_rounds.proofs.Picked.{idle_group, choices_within, one_length}
use Rattle.network_rounds.proofs.picking.pick_groups.Goals as goal

pub overflow_add-end : goal.overflow_add-end
overflow_add-end g c =
    let groups = c.args.groups.now in
    let within = choices_within groups c.loop-k.k c.loop-k.from c.len.result c.index-groups-k.result c.loop-k-test.true c.index-groups-k.is
    c.loop-k.invariant.from
    c.len.ensures in
    let many = c.requires.many in
    omega (arith, within, many)

pub slice_bounds-pick_group-end : goal.slice_bounds-pick_group-end
slice_bounds-pick_group-end g c =
    let groups = c.args.groups.now in
    let within = choices_within groups c.loop-k.k c.loop-k.from c.len.result c.index-groups-k.result c.loop-k-test.true c.index-groups-k.is
    c.loop-k.invariant.from
    c.len.ensures in
    let many = c.requires.many in
    omega (arith, within, many)

pub pick_group-picked-requires-clause-room : goal.pick_group-picked-requires-clause-room
pick_group-picked-requires-clause-room g c =
    let groups = c.args.groups.now in
    let size = ap length (c.deref.ensures.value ∙ items_of _ _ c.index-groups-k-in-loop-k.is) in
    let more = sum_by_more_le (λ group. length group.items) groups c.loop-k.k c.index-groups-k-in-loop-k.result c.loop-k-test.true in
    let few = c.loop-k.invariant.few in
    let same = c.loop-k.invariant.size in
    let room = c.requires.room in
    omega (arith, size, more, few, same, room)

pub pick_group-picked-requires-clause-idle : goal.pick_group-picked-requires-clause-idle
pick_group-picked-requires-clause-idle g c =
    idle_group c.args.machine.now c.args.groups.now c.args.up.now c.loop-k.k c.loop-k.from _ c.index-groups-k-in-loop-k.result c.deref.result.now
    c.requires.many
    c.loop-k-test.true c.index-groups-k-in-loop-k.is c.deref.ensures.value c.loop-k.invariant.from
    (let len = c.len.ensures in
    let same = one_length c.args.groups.now c.loop-k.k c.index-groups-k.result c.index-groups-k-in-loop-k.result c.loop-k-test.true c.index-groups-k.is
    c.index-groups-k-in-loop-k.is in
    let shown = ap length c.deref.ensures.value in
    omega (arith, len, same, shown)) c.requires.idle

pub loop-k-preserved : goal.loop-k-preserved
loop-k-preserved g c =
    let shown = c.deref.ensures.value ∙ items_of _ _ c.index-groups-k-in-loop-k.is in
    record {
      size = c.pick_group-picked.auto.enabled ∙ c.loop-k.invariant.size;
      from = choices_count c.args.groups.now c.loop-k.k c.loop-k.from c.len.result c.index-groups-k.result c.loop-k-test.true c.index-groups-k.is
          c.loop-k.invariant.from c.len.ensures;
      few =
          (let one = c.pick_group-picked.ensures.few in
          let few = c.loop-k.invariant.few in
          let long = ap length shown in
          let more = sum_by_more (λ group. length group.items) c.args.groups.now c.loop-k.k c.index-groups-k-in-loop-k.result c.loop-k-test.true in
          omega (arith, one, few, long, more));
      adds = group_adds c.args.machine.now c.args.turn c.args.groups.now c.loop-k.k c.index-groups-k-in-loop-k.result c.deref.result.now _ _ _
          c.loop-k-test.true shown
          c.loop-k.invariant.adds c.pick_group-picked.ensures.adds;
    }
