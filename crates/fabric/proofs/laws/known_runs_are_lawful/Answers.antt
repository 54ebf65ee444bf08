use Rattle.fabric.proofs.Meetings.{every_run}
use Rattle.fabric.proofs.laws.known_runs_are_lawful.Goals as goal

pub returns : goal.returns
returns c = every_run
