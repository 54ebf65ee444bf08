use Rattle.std.proofs.Common.{take}
use Rattle.network_machine.specs.Machine.{SameTables}
use Rattle.network_machine.specs.Runs.{RunsTo}
use Rattle.network_machine.proofs.machine.Machine.replay.Given as goal

-- the moves so far are made
abbrev pub invariant-loop-place : goal.invariant-loop-place
invariant-loop-place g l = record {
  runs : RunsTo l.initial.self l.self (take l.place l.moves);
  same : SameTables l.initial.self l.self;
}
