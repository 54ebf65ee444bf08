use Rattle.one_order.proofs.Reports.{course_within, course_book, course_room}
use Rattle.one_order.proofs.abstract_laws.courses_have_room.Goals as goal

pub returns : goal.returns
returns c = record { flight = course_within; book = course_book; moves = course_room }
