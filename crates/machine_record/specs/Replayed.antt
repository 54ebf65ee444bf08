-- What comes of the actions of a record.
use Rattle.std.specs.Prelude.{◌≡◌, ℕ, Bool, true, false, List, take, Option, Some, None, slice_get}
use Rattle.machine_asked.specs.Asked.{Asked}
use Rattle.machine_record.specs.declared.row.LineRow.{LineRow}
use Rattle.machine_record.specs.Replay.{acted_by, replayed}

-- it is done, and the machine is what it makes; or it can't be
abbrev pub ComesInTurn : Option Asked → Asked → Bool → Type 0
ComesInTurn wanted new true = wanted ≡ Some new
ComesInTurn wanted new false = wanted ≡ None

-- the action at a place can't be done, where those before it can
pub record StopsAtAction (rows : List LineRow) (actions : List ℕ) (old : Asked) (at : ℕ) : Type 0 where
  pub number : ℕ
  pub there : slice_get actions at ≡ Some number
  pub before : Asked
  pub came : replayed rows old (take at actions) ≡ Some before
  pub refused : acted_by rows before number ≡ None

-- all of some actions can be done, and the machine is what they make; or the one at a place can't be, where
-- those before it can
abbrev pub Replays : List LineRow → List ℕ → Asked → Asked → Option ℕ → Type 0
Replays rows actions old new None = replayed rows old actions ≡ Some new
Replays rows actions old new (Some at) = StopsAtAction rows actions old at
