use Rattle.std.proofs.Common.{◌≡◌, ◌++◌, List, length, take}
use Rattle.network_machine.specs.declared.moves.Move.{Move}
use Rattle.network_rounds.specs.Flags.{AreNotedIn}
use Rattle.network_rounds.proofs.flags.note_group.Given as goal

-- the choices of the group so far are noted
abbrev pub invariant-loop-k : goal.invariant-loop-k
invariant-loop-k l = (choices : List Move) → length choices ≡ l.from → AreNotedIn l.initial.places choices
    → AreNotedIn l.places (choices ++ take l.k l.group)
