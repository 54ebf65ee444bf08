use Rattle.deadlock_laws.proofs.Circular.{are_jams}
use Rattle.deadlock_laws.proofs.lengths.circular_jams_are_jams.Goals as goal

pub returns : goal.returns
returns c = are_jams
