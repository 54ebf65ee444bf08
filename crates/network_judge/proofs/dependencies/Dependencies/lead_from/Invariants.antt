use Rattle.std.proofs.Common.{◌≡◌, ◌+◌, ◌-◌, ◌<◌, ◌≤◌, ℕ, true, length}
use Rattle.network_judge.specs.Graph.{leads_of}
use Rattle.network_judge.proofs.dependencies.Dependencies.lead_from.Given as goal

-- it leads on in no column so far
abbrev pub invariant-loop-at : goal.invariant-loop-at
invariant-loop-at l = record {
  low : l.column ≤ l.at;
  high : l.at ≤ l.self.width + length l.self.replies.now;
  none : (j : ℕ) → l.column ≤ j → j < l.at → leads_of l.self.width l.self.used.now l.self.replies.now l.x j ≡ true → ⊥;
}

abbrev pub decreases-loop-at : goal.decreases-loop-at
decreases-loop-at l = l.self.width + length l.self.replies.now - l.at
