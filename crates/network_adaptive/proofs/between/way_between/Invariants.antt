use Rattle.std.proofs.Common.{◌≡◌, ℕ, ◌<◌, true, length}
use Rattle.network_judge.specs.Marks.{is_marked_at}
use Rattle.network_adaptive.specs.Spread.{down}
use Rattle.network_adaptive.specs.Between.{LeadsToWait}
use Rattle.network_adaptive.proofs.Ways.{GoesOnBy}
use Rattle.network_adaptive.proofs.between.way_between.Given as goal

-- the way so far, and that packets go on from its end over channels that aren't shut
abbrev pub invariant-loop-alloc : goal.invariant-loop-alloc
invariant-loop-alloc g l = record {
  size : length l.shut.items ≡ length l.kinds;
  inside : l.at < length l.kinds;
  kept : (z : ℕ) → is_marked_at l.marks z ≡ true → is_marked_at l.shut.items z ≡ true;
  leads : LeadsToWait l.kinds l.choices l.base l.ways l.shut.items l.at l.y;
  way : GoesOnBy l.kinds l.choices l.base l.ways l.marks l.x l.over.items l.at l.y;
}

-- the channels that aren't shut
abbrev pub decreases-loop-alloc : goal.decreases-loop-alloc
decreases-loop-alloc g l = down l.shut.items
