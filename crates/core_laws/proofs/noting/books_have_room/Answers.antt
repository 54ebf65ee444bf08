use Rattle.core_laws.proofs.Notes.{book_fits, room_to_issue, room_to_serve, room_to_answer}
use Rattle.core_laws.proofs.noting.books_have_room.Goals as goal

pub returns : goal.returns
returns c = record { book = book_fits; issue = room_to_issue; service = room_to_serve; answer = room_to_answer }
