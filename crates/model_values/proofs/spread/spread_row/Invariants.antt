use Rattle.std.proofs.Common.{◌≡◌, ℕ, ◌<◌, false}
use Rattle.model_values.specs.Known.{HasSpreadOrder, IsConcluded, IsRival, NotesMore}
use Rattle.model_values.proofs.spread.spread_row.Given as goal

-- turns that explain the trace still agree with the table; where nothing is new, what follows for the
-- writes so far is known
abbrev pub invariant-loop-w : goal.invariant-loop-w
invariant-loop-w l = record {
  spread : HasSpreadOrder l.question l.level l.fn.table l.table;
  more : NotesMore l.level l.fn.table l.table l.more;
  concluded : l.more ≡ false → (v : ℕ) → v < l.w → IsRival l.question.operations.now l.question.sources.now l.x v
      → IsConcluded l.question l.table l.level l.x v;
}
