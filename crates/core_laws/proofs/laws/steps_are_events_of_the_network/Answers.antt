use Rattle.core_laws.proofs.CourseRuns.{can_happen}
use Rattle.core_laws.proofs.Reached.{mirrors, words, routes}
use Rattle.core_laws.proofs.laws.steps_are_events_of_the_network.Goals as goal

pub returns : goal.returns
returns c = record { may = can_happen; mirrors = mirrors; words = words; routes = routes }
