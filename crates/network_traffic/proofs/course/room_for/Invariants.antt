use Rattle.std.proofs.Common.{◌≡◌, ◌+◌, ◌<◌, ◌^◌, length, take}
use Rattle.std.specs.List.{sum_by}
use Rattle.network_traffic.proofs.course.room_for.Given as goal

-- the moves of the groups so far
abbrev pub invariant-loop-k : goal.invariant-loop-k
invariant-loop-k g l = l.room < 2 ^ 31 → l.room ≡ l.senders + sum_by (λ group. length group.items) (take l.k l.groups)
