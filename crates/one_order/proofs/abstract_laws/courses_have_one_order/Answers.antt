use Rattle.one_order.proofs.IssueNumbers.{rows_of, one_order}
use Rattle.one_order.specs.Courses.{course_run, events_of}
use Rattle.one_order.proofs.Courses.{holds_at}
use Rattle.one_order.proofs.abstract_laws.courses_have_one_order.Goals as goal

pub returns : goal.returns
returns c = record {
  every = λ tiles tags opening scripts flight move n rows course are.
      one_order tiles tags opening (course_run flight) (events_of flight move) n rows
      (holds_at tiles tags opening scripts flight move n course).history are;
  some = λ tiles tags opening scripts flight move n course.
      let h = (holds_at tiles tags opening scripts flight move n course).history in
      let rows = rows_of tiles tags opening (course_run flight) (events_of flight move) n h in
      (rows.0, one_order tiles tags opening (course_run flight) (events_of flight move) n rows.0 h rows.1);
}
