use Rattle.std.proofs.Common.{ℕ, ◌<◌}
use Rattle.std.specs.Prelude.{slice_index}
use Rattle.model_values.specs.Values.{IsLeftBy, IsReader}
use Rattle.model_values.proofs.looking.find_open.Given as goal

-- the operations so far have their sources
abbrev pub invariant-loop-x : goal.invariant-loop-x
invariant-loop-x l = record {
  left : (y : ℕ) → y < l.x → IsReader l.valued.operations.now y
      → IsLeftBy l.valued.operations.now l.valued.left.now l.valued.found.now y (slice_index l.sources y);
}
