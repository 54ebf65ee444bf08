-- Marks in a list of flags: a row for each channel, a flag in it for each column.
use Rattle.std.specs.Prelude.{◌≡◌, ◌⊎◌, ℕ, ◌+◌, ◌*◌, ◌<◌, Bool, true, false, List, length}
use Rattle.std.specs.Prelude.{slice_index_or}
use Rattle.network_judge.specs.Table.{Table, channels_of, columns_of, column_of, joins_of}
use Rattle.network_judge.specs.Ways.{place, IsWay}
use Rattle.network_judge.specs.Verdicts.{join_at}

-- the place of channel x and a column in the list
abbrev pub cell : Table → ℕ → ℕ → ℕ
cell t x column = x * columns_of t + column

-- the flag at a place
abbrev pub is_marked_at : List Bool → ℕ → Bool
is_marked_at used m = slice_index_or used m false

-- the place of the k-th channel of a walk
abbrev pub walk_cell : Table → ℕ → ℕ → ℕ → ℕ
walk_cell t i j k = cell t (place t j i k) (column_of t j)

-- flags once the first n steps of a walk are marked
pub record IsTraced (t : Table) (i j n : ℕ) (old new : List Bool) : Type 0 where
  pub size : length new ≡ length old
  pub kept : (m : ℕ) → is_marked_at old m ≡ true → is_marked_at new m ≡ true
  pub marked : (k : ℕ) → k < n → is_marked_at new (walk_cell t i j k) ≡ true
  pub only : (m : ℕ) → is_marked_at new m ≡ true
      → (is_marked_at old m ≡ true) ⊎ ((k : ℕ) × (k < n) × (m ≡ walk_cell t i j k))

-- the pair at this place of the list has a route, and the flags are marked along it
pub record HasTraced (t : Table) (p : ℕ) (old new : List Bool) : Type 0 where
  pub steps : ℕ
  pub way : IsWay t (join_at t p).from (join_at t p).to steps
  pub traced : IsTraced t (join_at t p).from (join_at t p).to steps old new

-- packets to ejection channel j go through channel x and on
pub record Passes (t : Table) (x j : ℕ) : Type 0 where
  pub from : ℕ
  pub joined : joins_of t from j ≡ true
  pub steps : ℕ
  pub way : IsWay t from j steps
  pub step : ℕ
  pub before : step < steps
  pub here : place t j from step ≡ x

-- packets to the ejection channel of this column go through channel x and on
pub record PassesIn (t : Table) (x c : ℕ) : Type 0 where
  pub to : ℕ
  pub column : column_of t to ≡ c
  pub passes : Passes t x to

-- a pair has a route, all marked
pub record IsMarked (t : Table) (i j : ℕ) (used : List Bool) : Type 0 where
  pub steps : ℕ
  pub way : IsWay t i j steps
  pub marked : (k : ℕ) → k < steps → is_marked_at used (walk_cell t i j k) ≡ true

-- the routes of the first pairs are marked, and nothing else
pub record MarksRoutes (t : Table) (pairs : ℕ) (used : List Bool) : Type 0 where
  pub size : length used ≡ channels_of t * columns_of t
  pub each : (p : ℕ) → p < pairs → IsMarked t (join_at t p).from (join_at t p).to used
  pub only : (x column : ℕ) → column < columns_of t → is_marked_at used (cell t x column) ≡ true
      → PassesIn t x column
