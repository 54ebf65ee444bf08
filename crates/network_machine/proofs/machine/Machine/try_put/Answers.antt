use Rattle.network_machine.proofs.Making.{puts_move, puts_prevent}
use Rattle.network_machine.proofs.machine.Machine.try_put.Goals as goal

pub returns-clause-moves : goal.returns-clause-moves
returns-clause-moves g c =
    puts_move c.args.self.now c.put_along.new.self c.args.x c.put_along.ensures.arrive c.put_along.ensures.same c.if-not-put_along.ensures.made

pub returns-then-not-put_along-clause-prevented : goal.returns-then-not-put_along-clause-prevented
returns-then-not-put_along-clause-prevented g c =
    puts_prevent c.args.self.now c.put_along.new.self c.args.x c.if-not-put_along.ensures.made
