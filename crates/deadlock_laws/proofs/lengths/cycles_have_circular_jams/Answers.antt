use Rattle.deadlock_laws.proofs.Circular.{has_jam}
use Rattle.deadlock_laws.proofs.lengths.cycles_have_circular_jams.Goals as goal

pub returns : goal.returns
returns c = has_jam
