use Rattle.std.proofs.Common.{◌≡◌, ℕ, ◌<◌, true}
use Rattle.memory_models.specs.Trace.{operation_at, uses_word}
use Rattle.weak_models.specs.Bounds.{IsKeptAt}
use Rattle.weak_models.proofs.keeping.are_kept.Given as goal

-- the operations so far come behind what they have to
abbrev pub invariant-loop-y : goal.invariant-loop-y
invariant-loop-y l = record {
  each : (y : ℕ) → y < l.y → uses_word (operation_at l.operations y).kind ≡ true → IsKeptAt l.notes l.operations l.writes l.turns l.bounds y;
}
