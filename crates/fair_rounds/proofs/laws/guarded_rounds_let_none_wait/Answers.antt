use Rattle.fair_rounds.proofs.GuardedRuns.{none_waits}
use Rattle.fair_rounds.proofs.laws.guarded_rounds_let_none_wait.Goals as goal

pub returns : goal.returns
returns c = none_waits
