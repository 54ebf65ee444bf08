-- All are counted.
use Rattle.std.proofs.Common.{ap, length, map, ◌∙◌}
use Rattle.command_schedule.proofs.Listed.{all_mapped}
use Rattle.command_schedule.proofs.answer_count.lengths_of.Goals as goal

pub returns : goal.returns
returns g c =
    c.loop-group.invariant
    ∙ all_mapped length (λ group. group.now) c.as_slice-group-items.result.now c.loop-group.group-index c.loop-group-test.false
    ∙ ap (λ items. map length (map (λ group. group.now) items)) c.as_slice-group-items.ensures.value
    ∙ ap (map length) c.in_ok-groups.ensures
