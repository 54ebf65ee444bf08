use Rattle.std.proofs.Common.{◌≡◌, ◌≤◌, [], List, length, take}
use Rattle.network_machine.specs.declared.moves.Move.{Move}
use Rattle.network_machine.specs.Machine.{SameTables}
use Rattle.network_rounds.specs.Arbiters.{AreGrants}
use Rattle.network_rounds.specs.Attempts.{AddsMade}
use Rattle.network_rounds.specs.Flags.{AreFlags}
use Rattle.network_rounds.proofs.attempting.attempt_moves.Given as goal

-- the attempts so far
abbrev pub invariant-loop-k : goal.invariant-loop-k
invariant-loop-k g l = record {
  size : length l.made ≡ length l.initial.made;
  few : l.count ≤ l.k;
  adds : AddsMade l.initial.machine l.machine l.initial.grants.lasts.items l.grants.lasts.items (take l.k l.attempts) [] (take l.count l.made);
  same : SameTables l.initial.machine l.machine;
  grants : AreGrants l.machine l.grants;
  channels : length l.flags.places.items ≡ length l.machine.channels;
  flags : (choices : List Move) → AreFlags l.initial.machine choices l.initial.flags → AreFlags l.machine choices l.flags;
}
