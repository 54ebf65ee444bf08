use Rattle.std.proofs.Common.{◌≡◌, [], length, take}
use Rattle.network_rounds.specs.Flags.{AreNotedIn, choices_of}
use Rattle.network_rounds.proofs.flags.note_groups.Given as goal

-- the choices of the groups so far are noted
abbrev pub invariant-loop-k : goal.invariant-loop-k
invariant-loop-k g l = record {
  count : l.from ≡ length (choices_of (take l.k l.groups));
  noted : AreNotedIn l.initial.places [] → AreNotedIn l.places (choices_of (take l.k l.groups));
}
