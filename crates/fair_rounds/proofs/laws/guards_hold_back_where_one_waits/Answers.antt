use Rattle.fair_rounds.proofs.GuardedRuns.{held_where}
use Rattle.fair_rounds.proofs.laws.guards_hold_back_where_one_waits.Goals as goal

pub returns : goal.returns
returns c = held_where
