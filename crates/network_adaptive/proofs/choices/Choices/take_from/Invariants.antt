use Rattle.std.proofs.Common.{◌≡◌, ◌-◌, ◌<◌, ◌≤◌, ℕ, true}
use Rattle.network_adaptive.specs.Travel.{is_taken}
use Rattle.network_adaptive.proofs.choices.Choices.take_from.Given as goal

-- packets go on at no place so far
abbrev pub invariant-loop-at : goal.invariant-loop-at
invariant-loop-at l = record {
  low : l.place ≤ l.at;
  high : l.at ≤ l.self.ways;
  none : (k : ℕ) → l.place ≤ k → k < l.at → is_taken l.self.kinds.now l.self.choices.now l.self.base l.self.ways l.self.seen.now l.x k ≡ true → ⊥;
}

abbrev pub decreases-loop-at : goal.decreases-loop-at
decreases-loop-at l = l.self.ways - l.at
