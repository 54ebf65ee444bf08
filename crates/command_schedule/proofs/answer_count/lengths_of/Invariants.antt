use Rattle.std.proofs.Common.{◌≡◌, length, map, take}
use Rattle.command_schedule.proofs.answer_count.lengths_of.Given as goal

-- those so far are counted
abbrev pub invariant-loop-group : goal.invariant-loop-group
invariant-loop-group g l = l.counts.items ≡ map (λ group. length group.now) (take l.group-index l.group-items)
