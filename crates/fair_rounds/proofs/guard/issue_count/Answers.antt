use Rattle.fair_rounds.proofs.Firsts.{none_listed}
use Rattle.machine_parts.specs.Machine.{shown}
use Rattle.fair_rounds.proofs.guard.issue_count.Goals as goal

pub returns-in-None : goal.returns-in-None
returns-in-None g c = none_listed (shown c.args.machine.now).issued c.args.processor c.in-None.ensures
