use Rattle.one_order.proofs.IssueNumbers.{rows_of, one_order}
use Rattle.one_order.proofs.AnswersInTurn.{answers_in_turn}
use Rattle.one_order.specs.Courses.{course_run, events_of}
use Rattle.one_order.proofs.Courses.{holds_at}
use Rattle.one_order.proofs.abstract_laws.answers_come_in_turn.Goals as goal

pub returns : goal.returns
returns c = λ tiles tags opening scripts flight move n course.
    let h = (holds_at tiles tags opening scripts flight move n course).history in
    let rows = rows_of tiles tags opening (course_run flight) (events_of flight move) n h in
    answers_in_turn tiles tags opening (course_run flight) n rows.0 (one_order tiles tags opening (course_run flight) (events_of flight move) n rows.0 h rows.1)
