use Rattle.deadlock_laws.proofs.Sets.{fillings_dead}
use Rattle.deadlock_laws.proofs.choices.fillings_are_dead_sets.Goals as goal

pub returns : goal.returns
returns c = fillings_dead
