-- The widths of a record's numbers.
use Rattle.std.specs.Prelude.{ℕ, ◌<◌, ◌^◌, List, length, All}
use Rattle.script_lines.specs.declared.line.Line.{Line}
use Rattle.script_lines.specs.declared.line.Line.TheVariants as line
use Rattle.machine_record.specs.declared.row.LineRow.{LineRow}
use Rattle.machine_record.specs.Recording.{Recording}

-- a row's numbers have 32 bits, and its values 64
pub record IsRow (row : LineRow) : Type 0 where
  pub processor : row.processor < 2 ^ 32
  pub operation : row.operation < 2 ^ 32
  pub address : row.address < 2 ^ 32
  pub lasts : row.lasts < 2 ^ 32
  pub first : row.first < 2 ^ 64
  pub second : row.second < 2 ^ 64

-- a number of 32 bits
abbrev pub IsHalf : ℕ → Type 0
IsHalf n = n < 2 ^ 32

-- the lengths of a record have 64 bits
pub record HasLengths (r : Recording) : Type 0 where
  pub machine : length r.machine < 2 ^ 64
  pub scripts : length r.scripts < 2 ^ 64
  pub rows : length r.rows < 2 ^ 64
  pub actions : length r.actions < 2 ^ 64

-- all numbers of a record have their widths, and so have the lengths
pub record HasWidths (r : Recording) : Type 0 where
  pub lengths : HasLengths r
  pub rows : All IsRow r.rows
  pub actions : All IsHalf r.actions

-- the loads of a spin are a number of 32 bits
abbrev pub HasFewLoads : Line → Type 0
HasFewLoads (line.Spin a v m) = m < 2 ^ 32
HasFewLoads first = Unit {0}
