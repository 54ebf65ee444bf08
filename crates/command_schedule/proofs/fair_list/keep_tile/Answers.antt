-- The parts of a tile, one after the other.
use Rattle.std.proofs.Common.{◌≡◌, ℕ, ◌+◌, ◌*◌, ◌≤◌, List, length, map, ap, subst, ◌∙◌, arith, refl}
use Rattle.std.specs.List.{range_with_len}
use Rattle.torus.specs.Shape.{dims_of}
use Rattle.torus.specs.Choices.{bank_choices, processor_choices}
use Rattle.torus.specs.declared.step.Choice.TheVariants.{CreditOf, Put, TakeFrom}
use Rattle.torus.specs.declared.step.Step.{Step}
use Rattle.core_laws.specs.Core.{attempts_of}
use Rattle.core_laws.specs.Machine.{Core}
use Rattle.machine_core.specs.Rounds.{attempts_between}
use Rattle.machine_core.specs.Arbiters.{arbited_at}
use Rattle.machine_core.specs.Oldest.{oldest, sorted_by}
use Rattle.machine_core.specs.Ordered.{age_at}
use Rattle.command_schedule.specs.Fair.{KeepsEnabled}
use Rattle.command_schedule.proofs.Kept.{kept_then, kept_as}
use Rattle.command_schedule.proofs.fair_list.keep_tile.Goals as goal

pub keep_choices-sent-requires : goal.keep_choices-sent-requires
keep_choices-sent-requires g c = omega (arith, c.requires.room)

pub keep_takes-taken-requires : goal.keep_takes-taken-requires
keep_takes-taken-requires g c =
    let sent = c.keep_choices-sent.ensures.few in
    let room = c.keep_choices-sent.ensures.kept.room in
    omega (arith, sent, room, c.requires.room, c.requires.low)

pub keep_puts-put-requires : goal.keep_puts-put-requires
keep_puts-put-requires g c =
    let sent = c.keep_choices-sent.ensures.few in
    let taken = c.keep_takes-taken.ensures.few in
    let room = c.keep_choices-sent.ensures.kept.room in
    let room2 = c.keep_takes-taken.ensures.kept.room in
    let order = c.inputs_by_age-order.ensures.few in
    let items = ap length c.as_slice.ensures.value in
    omega (arith, sent, taken, room, room2, order, items, c.requires.room, c.requires.low)

pub keep_credits-freed-requires : goal.keep_credits-freed-requires
keep_credits-freed-requires g c =
    let sent = c.keep_choices-sent.ensures.few in
    let taken = c.keep_takes-taken.ensures.few in
    let put = c.keep_puts-put.ensures.few in
    let room = c.keep_choices-sent.ensures.kept.room in
    let room2 = c.keep_takes-taken.ensures.kept.room in
    let room3 = c.keep_puts-put.ensures.kept.room in
    let order = c.inputs_by_age-order.ensures.few in
    let items = ap length c.as_slice.ensures.value in
    omega (arith, sent, taken, put, room, room2, room3, order, items, c.requires.room, c.requires.low)

pub keep_choices-requires : goal.keep_choices-requires
keep_choices-requires g c =
    let sent = c.keep_choices-sent.ensures.few in
    let taken = c.keep_takes-taken.ensures.few in
    let put = c.keep_puts-put.ensures.few in
    let freed = c.keep_credits-freed.ensures.few in
    let room = c.keep_choices-sent.ensures.kept.room in
    let room2 = c.keep_takes-taken.ensures.kept.room in
    let room3 = c.keep_puts-put.ensures.kept.room in
    let room4 = c.keep_credits-freed.ensures.kept.room in
    let order = c.inputs_by_age-order.ensures.few in
    let items = ap length c.as_slice.ensures.value in
    omega (arith, sent, taken, put, freed, room, room2, room3, room4, order, items, c.requires.room, c.requires.low)

pub returns : goal.returns
returns g c =
    let m : Core = c.args.machine.now in
    let t : ℕ = c.args.tile in
    let old : List Step = c.args.room.now in
    let before : ℕ = c.args.count in
    let inputs : c.as_slice.result.now ≡ oldest m t =
    c.as_slice.ensures.value ∙ (c.inputs_by_age-order.ensures.order ∙ ap (λ (n : ℕ). sorted_by (age_at m t) (range_with_len 0 n)) c.requires.ports) in
    let sent = c.keep_choices-sent.ensures in
    let taken = c.keep_takes-taken.ensures in
    let put = c.keep_puts-put.ensures in
    let freed = c.keep_credits-freed.ensures in
    let last = c.keep_choices.ensures in
    let few1 = sent.few in
    let few2 = taken.few in
    let few3 = put.few in
    let few4 = freed.few in
    let few5 = last.few in
    let order = c.inputs_by_age-order.ensures.few in
    let items = ap length c.as_slice.ensures.value in
    let one = kept_then m _ _ old _ _ before _ _ sent.kept taken.kept in
    let two = kept_then m _ _ old _ _ before _ _ one put.kept in
    let three = kept_then m _ _ old _ _ before _ _ two freed.kept in
    let four = kept_then m _ _ old _ _ before _ _ three last.kept in
    record {
      kept = subst (λ (xs : List ℕ). KeepsEnabled m (arbited_at c.args.ports xs t) old before c.keep_choices.new.room c.keep_choices.result) inputs four;
      few = omega (arith, few1, few2, few3, few4, few5, order, items, c.requires.low);
    }
