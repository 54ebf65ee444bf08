use Rattle.one_order.proofs.Reports.{course_finished}
use Rattle.one_order.proofs.abstract_laws.ended_followers_finish_scripts.Goals as goal

pub returns : goal.returns
returns c = course_finished
