use Rattle.fair_rounds.proofs.MachineCounts.{chores_by_tags}
use Rattle.fair_rounds.proofs.laws.tags_bound_the_chores.Goals as goal

pub returns : goal.returns
returns c = chores_by_tags
