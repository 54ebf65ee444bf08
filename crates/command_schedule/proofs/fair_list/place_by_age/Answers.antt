use Rattle.std.proofs.Common.{length, ◌∙◌, ap, arith}
use Rattle.machine_core.specs.Ordered.{age_at}
use Rattle.machine_core.proofs.Sorted.{put_is}
use Rattle.command_schedule.proofs.fair_list.place_by_age.Goals as goal

pub returns-then-age-clause-place : goal.returns-then-age-clause-place
returns-then-age-clause-place g c =
    put_is (age_at c.args.machine.now c.args.tile) c.args.order.now c.loop-place.place c.args.input (omega arith) c.loop-place.invariant
    (λ more.
    let other = c.age.ensures ∙ ap (age_at c.args.machine.now c.args.tile) c.from.ensures in
    let own = c.age-age.ensures in
    let less = c.if-age.true in
    omega (arith, other, own, less))

pub returns-clause-place : goal.returns-clause-place
returns-clause-place g c =
    put_is (age_at c.args.machine.now c.args.tile) c.args.order.now (length c.args.order.now) c.args.input (omega arith)
    (λ k low. c.loop-place.invariant k (omega (arith, low))) (λ more. absurd (omega (arith, more)))
