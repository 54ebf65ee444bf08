use Rattle.fair_rounds.proofs.GuardOut.{round_lives}
use Rattle.fair_rounds.proofs.guard.Guard.round.Goals as goal

pub returns-clause-live : goal.returns-clause-live
returns-clause-live g c = λ busy.
    let reached = c.reached.ensures.after in
    round_lives c.args.self.now c.args.machine.now c.watch-held.result c.watch-held.ensures.held
    (record { load = reached.0; steps = reached.1; after = reached.2 }) busy c.fair_round.ensures.live
