use Rattle.core_laws.proofs.Notes.{noted_is}
use Rattle.core_laws.proofs.noting.notes_tell_the_book.Goals as goal

pub returns : goal.returns
returns c = noted_is
