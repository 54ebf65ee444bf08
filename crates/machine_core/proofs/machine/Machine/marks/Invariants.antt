use Rattle.std.proofs.Common.{◌≡◌}
use Rattle.machine_core.proofs.Marking.{MarkedBelow}
use Rattle.machine_core.proofs.machine.Machine.marks.Given as goal

-- the tiles so far are marked
abbrev pub invariant-loop-tile : goal.invariant-loop-tile
invariant-loop-tile g l = record {
  same : l.self ≡ l.fn.self;
  marked : MarkedBelow l.fn.self l.ports l.tile l.marks;
}
