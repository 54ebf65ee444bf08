use Rattle.core_laws.proofs.First.{first_row, first_tiles}
use Rattle.core_laws.proofs.row_laws.first_rows.Goals as goal

pub returns : goal.returns
returns c = record { row = first_row; tiles = first_tiles }
