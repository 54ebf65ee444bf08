-- Which source-destination pairs packets go between, in a row of cells for each channel.
use Rattle.std.specs.Prelude.{◌≡◌, ℕ, ◌<◌, ◌==◌, ◌&&◌, Bool, true, false, List, [], map, Vec, length}
use Rattle.std.specs.Prelude.{slice_index_or, slice_set}
use Rattle.std.specs.List.{list_any}
use Rattle.network_judge.specs.declared.table.Join.{Join}

-- the cells of some rows
abbrev pub cells_of : {A : Type 0} → List (Vec Bool A) → List (List Bool)
cells_of rows = map (λ row. row.items) rows

-- the row of a channel
abbrev pub row_of : List (List Bool) → ℕ → List Bool
row_of cells x = slice_index_or cells x []

-- whether the cell of a pair is there and marked
abbrev pub is_marked : List (List Bool) → ℕ → ℕ → Bool
is_marked cells x y = slice_index_or (row_of cells x) y false

-- the cell of a pair is marked, if there is one
abbrev pub cell_marked : List (List Bool) → ℕ → ℕ → List (List Bool)
cell_marked cells x y = slice_set cells x (slice_set (row_of cells x) y true)

-- the pair has a cell, which says this
pub record TellsPair (cells : List (List Bool)) (x y : ℕ) (is_one : Bool) : Type 0 where
  pub here : y < length (row_of cells x)
  pub is : is_one ≡ is_marked cells x y

-- no cell is marked
abbrev pub NoPairs : List (List Bool) → Type 0
NoPairs cells = (x y : ℕ) → is_marked cells x y ≡ false

-- the cells that are marked are those of the pairs that packets go between
abbrev pub ArePairs : List Join → List (List Bool) → Type 0
ArePairs joins cells = (x y : ℕ) → y < length (row_of cells x)
    → is_marked cells x y ≡ list_any (λ (pair : Join). pair.from == x && pair.to == y) joins
