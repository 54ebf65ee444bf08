use Rattle.core_laws.proofs.Events.{told_by_counts}
use Rattle.core_laws.proofs.seen_laws.events_are_told_by_counts.Goals as goal

pub returns : goal.returns
returns c = told_by_counts
