use Rattle.one_order.proofs.Reports.{course_shows}
use Rattle.one_order.proofs.abstract_laws.courses_show_well.Goals as goal

pub returns : goal.returns
returns c = course_shows
