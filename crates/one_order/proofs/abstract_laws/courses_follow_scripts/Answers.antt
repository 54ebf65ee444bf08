use Rattle.one_order.proofs.Courses.{scripts_followed}
use Rattle.one_order.proofs.abstract_laws.courses_follow_scripts.Goals as goal

pub returns : goal.returns
returns c = λ tiles tags opening scripts flight move n course accepted. scripts_followed tiles tags opening scripts flight move n course accepted
