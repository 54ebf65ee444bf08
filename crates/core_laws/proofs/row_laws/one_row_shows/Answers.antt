use Rattle.core_laws.proofs.RowRows.{one_row}
use Rattle.core_laws.proofs.row_laws.one_row_shows.Goals as goal

pub returns : goal.returns
returns c = λ depth around row are. one_row depth around are row
