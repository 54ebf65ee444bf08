use Rattle.std.proofs.Common.{◌≡◌, ◌++◌, drop}
use Rattle.sentences.specs.Answered.{are_answered}
use Rattle.sentences.specs.Spins.{spent_from, spent_spins}
use Rattle.sentences.proofs.spins.end_of_script.Given as goal

-- the spins so far, and those of the lines that are left; and all is answered where that is true of these
abbrev pub invariant-loop-place : goal.invariant-loop-place
invariant-loop-place g l = record {
  spins : l.spins.items ++ spent_from l.place (drop l.place l.script) (drop l.next l.replies) ≡ spent_spins l.script l.replies;
  answered : are_answered (drop l.place l.script) (drop l.next l.replies) ≡ are_answered l.script l.replies;
}
