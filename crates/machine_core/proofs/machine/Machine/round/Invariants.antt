use Rattle.std.proofs.Common.{◌≡◌}
use Rattle.std.specs.List.{flat_map, range_with_len}
use Rattle.machine_parts.specs.Core.{round_at}
use Rattle.machine_parts.specs.Machine.{core_after}
use Rattle.machine_core.proofs.machine.Machine.round.Given as goal

-- the tiles so far have made their part
abbrev pub invariant-loop-tile : goal.invariant-loop-tile
invariant-loop-tile g l = l.self ≡ core_after l.fn.self (flat_map (round_at l.ports) (range_with_len 0 l.tile))
