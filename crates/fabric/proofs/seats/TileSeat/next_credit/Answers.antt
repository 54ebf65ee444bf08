use Rattle.fabric.proofs.Counting.{credit_idle_by}
use Rattle.fabric.proofs.seats.TileSeat.next_credit.Goals as goal

pub returns-in-Some-clause-within : goal.returns-in-Some-clause-within
returns-in-Some-clause-within g c = ((c.in-Some.ensures.1).low, (c.in-Some.ensures.1).high)

pub returns-in-Some-clause-idle : goal.returns-in-Some-clause-idle
returns-in-Some-clause-idle g c = λ i from to.
    credit_idle_by c.self.inside.seat c.args.self.now c.self.inside.flags c.self.view_is c.self.invariant.1 c.args.tile i ((c.in-Some.ensures.1).before i from to)

pub returns-in-None-clause-idle : goal.returns-in-None-clause-idle
returns-in-None-clause-idle g c = λ i from to.
    credit_idle_by c.self.inside.seat c.args.self.now c.self.inside.flags c.self.view_is c.self.invariant.1 c.args.tile i (c.in-None.ensures i from to)
