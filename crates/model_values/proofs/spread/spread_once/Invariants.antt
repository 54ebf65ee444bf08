use Rattle.std.proofs.Common.{◌≡◌, ℕ, ◌<◌, false}
use Rattle.model_values.specs.Known.{AreConcludedOf, HasSpreadOrder, NotesMore}
use Rattle.model_values.proofs.spread.spread_once.Given as goal

-- turns that explain the trace still agree with the table; where nothing is new, what follows for the
-- readers so far is known
abbrev pub invariant-loop-x : goal.invariant-loop-x
invariant-loop-x l = record {
  spread : HasSpreadOrder l.question l.level l.fn.table l.table;
  more : NotesMore l.level l.fn.table l.table l.more;
  concluded : l.more ≡ false → (v : ℕ) → v < l.x → AreConcludedOf l.question l.table l.level v;
}
