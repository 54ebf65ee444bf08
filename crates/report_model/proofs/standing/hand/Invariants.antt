use Rattle.std.proofs.Common.{◌≡◌, ◌-◌, ◌≤◌, false, length, drop}
use Rattle.report_model.specs.Programs.{handed}
use Rattle.report_model.proofs.standing.hand.Given as goal

-- what is left leads where all of it leads
abbrev pub invariant-loop-at : goal.invariant-loop-at
invariant-loop-at g l = record {
  leads : handed false l.fn.follower (drop l.fn.at l.lines) ≡ handed l.fence l.follower (drop l.at l.lines);
  within : l.at ≤ length l.lines;
  issued : l.follower.issued ≡ l.fn.follower.issued;
}

abbrev pub decreases-loop-at : goal.decreases-loop-at
decreases-loop-at g l = length l.lines - l.at
