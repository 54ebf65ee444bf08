use Rattle.std.proofs.Common.{◌≡◌, ℕ, ◌<◌, ◌≤◌, length, Some}
use Rattle.std.specs.Prelude.{slice_get}
use Rattle.fabric.proofs.taking.taken.Given as goal

abbrev pub invariant-loop-t : goal.invariant-loop-t
invariant-loop-t g l = record {
  len : length l.slots.items ≡ l.t;
  same : length l.all.items ≡ length l.initial.all.items;
  inside : (k : ℕ) → l.from ≤ k → k < l.to → k < l.t → slice_get l.slots.items k ≡ slice_get l.initial.all.items k;
  outside : (k : ℕ) (x : g.row.T.Denot) → slice_get l.slots.items k ≡ Some (Some x) → (l.from ≤ k) × (k < l.to);
  untouched : (k : ℕ) → l.t ≤ k → slice_get l.all.items k ≡ slice_get l.initial.all.items k;
  rest : (k : ℕ) → l.to ≤ k → slice_get l.all.items k ≡ slice_get l.initial.all.items k;
}
