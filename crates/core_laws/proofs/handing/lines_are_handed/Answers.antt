use Rattle.core_laws.proofs.Handed.{stands, shown_still, book_still}
use Rattle.core_laws.proofs.handing.lines_are_handed.Goals as goal

pub returns : goal.returns
returns c = record { stands = stands; shown = shown_still; book = book_still }
