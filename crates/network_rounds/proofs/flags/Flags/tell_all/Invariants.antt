use Rattle.std.proofs.Common.{◌≡◌, List}
use Rattle.network_machine.specs.declared.moves.Move.{Move}
use Rattle.network_rounds.specs.Flags.{AreFlags}
use Rattle.network_rounds.proofs.flags.Flags.tell_all.Given as goal

-- the channels so far are told
abbrev pub invariant-loop-x : goal.invariant-loop-x
invariant-loop-x g l = record {
  places : l.self.places ≡ l.initial.self.places;
  flags : (choices : List Move) → AreFlags l.machine choices l.initial.self → AreFlags l.machine choices l.self;
}
