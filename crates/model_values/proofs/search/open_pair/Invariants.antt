use Rattle.std.proofs.Common.{◌≡◌, ◌⊎◌, ℕ, ◌<◌, true, length}
use Rattle.model_values.specs.Known.{AreRivals, is_known}
use Rattle.model_values.proofs.search.open_pair.Given as goal

-- of the writes so far it is known
abbrev pub invariant-loop-x : goal.invariant-loop-x
invariant-loop-x l = record {
  settled : (x y : ℕ) → x < l.x → y < length l.operations → AreRivals l.operations x y
      → (is_known l.table (length l.operations) l.level x y ≡ true) ⊎ (is_known l.table (length l.operations) l.level y x ≡ true);
}
