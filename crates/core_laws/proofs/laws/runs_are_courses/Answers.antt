use Rattle.core_laws.proofs.CourseRuns.{is_course}
use Rattle.core_laws.proofs.laws.runs_are_courses.Goals as goal

pub returns : goal.returns
returns c = is_course
