use Rattle.one_order.proofs.Courses.{holds_at}
use Rattle.one_order.proofs.abstract_laws.courses_are_histories.Goals as goal

pub returns : goal.returns
returns c = λ tiles tags opening scripts flight move n course. (holds_at tiles tags opening scripts flight move n course).history
