use Rattle.std.proofs.Common.{◌≡◌, ◌⊎◌, ℕ, ◌<◌, true, length}
use Rattle.model_values.specs.Known.{AreRivals, is_known}
use Rattle.model_values.proofs.search.open_with.Given as goal

-- of the writes so far it is known
abbrev pub invariant-loop-y : goal.invariant-loop-y
invariant-loop-y l = record {
  settled : (y : ℕ) → y < l.y → AreRivals l.operations l.x y
      → (is_known l.table (length l.operations) l.level l.x y ≡ true) ⊎ (is_known l.table (length l.operations) l.level y l.x ≡ true);
}
