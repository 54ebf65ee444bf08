use Rattle.std.proofs.Common.{◌≡◌, ◌≤◌, ℕ, drop, length}
use Rattle.std.specs.BTreeMap.{get}
use Rattle.std.specs.Ordering.{nat_cmp}
use Rattle.report_model.specs.Rows.{entry_of_key}
use Rattle.report_model.proofs.rows.entries_by_key.Given as goal

-- the entries from a place on
abbrev pub invariant-back : goal.invariant-back
invariant-back g l = record {
  by : (x : ℕ) → get nat_cmp l.by x ≡ entry_of_key (drop l.place l.entries) x;
  within : l.place ≤ length l.entries;
}

abbrev pub decreases-back : goal.decreases-back
decreases-back g l = l.place
