-- The fewest clocked rounds, where more are allowed, are those that a fresh machine needs, and the other way.
use Rattle.machine_core.proofs.LawsRounds.{clocked_fewest, fewest_clocked}
use Rattle.machine_core.proofs.fewest_laws.fewest_clocked_rounds_finish.Goals as goal

pub returns-clause-needed : goal.returns-clause-needed
returns-clause-needed c = fewest_clocked

pub returns-clause-fewest : goal.returns-clause-fewest
returns-clause-fewest c = clocked_fewest
