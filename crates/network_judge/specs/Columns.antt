-- The columns of the choices as lists: that of each channel, and the ejection channel of each.
use Rattle.std.specs.Prelude.{◌≡◌, ℕ, ◌<◌, Some, List, length, take, slice_index, slice_get}
use Rattle.std.specs.List.{count_by}
use Rattle.network_judge.specs.declared.table.Kind.{Kind}
use Rattle.network_judge.specs.declared.table.Kind.TheVariants.{Ejection}
use Rattle.network_judge.specs.Table.{ejects}

-- for each channel how many ejection channels come before it
pub record AreColumns (kinds : List Kind) (columns : List ℕ) : Type 0 where
  pub size : length columns ≡ length kinds
  pub each : (x : ℕ) → x < length kinds → slice_index columns x ≡ count_by ejects (take x kinds)

-- an ejection channel, and its column
pub record IsColumnEnd (kinds : List Kind) (c j : ℕ) : Type 0 where
  pub kind : slice_get kinds j ≡ Some Ejection
  pub column : count_by ejects (take j kinds) ≡ c

-- for each column its ejection channel
pub record AreColumnEnds (kinds : List Kind) (ends : List ℕ) : Type 0 where
  pub size : length ends ≡ count_by ejects kinds
  pub each : (column : ℕ) → column < length ends
      → IsColumnEnd kinds column (slice_index ends column)
