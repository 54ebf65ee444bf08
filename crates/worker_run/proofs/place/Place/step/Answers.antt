use Rattle.std.proofs.Common.{arith}
use Rattle.worker_run.proofs.Rounds.{router_step, bank_step}
use Rattle.worker_run.proofs.place.Place.step.Goals as goal

pub returns-then-self-ports : goal.returns-then-self-ports
returns-then-self-ports c = router_step c.args.ports c.args.self.tile c.args.self.at c.router_choice.result (omega arith) c.router_choice.ensures

pub returns-else-self-ports : goal.returns-else-self-ports
returns-else-self-ports c = bank_step c.args.ports c.args.self.tile c.args.self.at c.bank_choice.result (omega arith) c.bank_choice.ensures
