use Rattle.std.proofs.Common.{◌≡◌}
use Rattle.std.specs.List.{flat_map, range_with_len}
use Rattle.machine_parts.specs.Machine.{core_after}
use Rattle.machine_core.specs.Marked.{marked_at}
use Rattle.machine_core.proofs.machine.Machine.clocked_round.Given as goal

-- what is marked of the tiles so far is attempted
abbrev pub invariant-loop-tile : goal.invariant-loop-tile
invariant-loop-tile g l = l.self ≡ core_after l.fn.self (flat_map (marked_at l.marks l.ports l.first) (range_with_len 0 l.tile))
