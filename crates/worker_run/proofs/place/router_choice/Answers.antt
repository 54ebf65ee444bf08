use Rattle.std.proofs.Common.{arith}
use Rattle.worker_run.proofs.Rounds.{take_choice, put_choice, credit_choice}
use Rattle.worker_run.proofs.place.router_choice.Goals as goal

pub returns-then-at-ports : goal.returns-then-at-ports
returns-then-at-ports c = take_choice c.args.ports c.args.at (omega arith)

pub returns-then-at-ports-2 : goal.returns-then-at-ports-2
returns-then-at-ports-2 c = put_choice c.args.ports c.args.at (omega arith) (omega arith)

pub returns-else-at-ports-2 : goal.returns-else-at-ports-2
returns-else-at-ports-2 c = credit_choice c.args.ports c.args.at (omega arith) (omega arith)
