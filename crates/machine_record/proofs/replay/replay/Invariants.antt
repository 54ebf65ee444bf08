use Rattle.std.proofs.Common.{◌≡◌, Some, take}
use Rattle.machine_record.specs.Replay.{replayed}
use Rattle.machine_record.proofs.replay.replay.Given as goal

-- the actions so far are done
abbrev pub invariant-loop-number : goal.invariant-loop-number
invariant-loop-number g l = record {
  place : l.at ≡ l.number-index;
  came : replayed l.rows l.fn.machine (take l.number-index l.actions) ≡ Some l.machine;
}
