use Rattle.std.proofs.Common.{◌≡◌, List, Option, ℕ, drop}
use Rattle.sentences.specs.declared.spins.SpentSpin.{SpentSpin}
use Rattle.sentences.specs.Answered.{behind_spin}
use Rattle.sentences.specs.Spins.{spun}
use Rattle.sentences.proofs.spins.end_of_spin.Given as goal

-- what is left of the spin comes to what all of it comes to
abbrev pub invariant-loop-left : goal.invariant-loop-left
invariant-loop-left l = record {
  spent : (over : List (Option ℕ) → List SpentSpin)
      → spun l.left l.spin over (drop l.next l.replies) ≡ spun l.spin.loads l.spin over (drop l.first l.replies);
  behind : behind_spin l.left l.spin.sought (drop l.next l.replies) ≡ behind_spin l.spin.loads l.spin.sought (drop l.first l.replies);
}

abbrev pub decreases-loop-left : goal.decreases-loop-left
decreases-loop-left l = l.left
