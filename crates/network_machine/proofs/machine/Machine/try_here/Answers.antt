use Rattle.network_machine.proofs.Making.{moved}
use Rattle.network_machine.proofs.machine.Machine.try_here.Goals as goal

pub returns-clause-moves : goal.returns-clause-moves
returns-clause-moves g c =
    λ e. moved c.args.self.now c.make-made.new.self c.args.of c.is_free.ensures.arrive c.make-made.ensures.same (c.is_free.ensures.yes c.if-not-is_free.false) c.make-made.result
    c.make-made.ensures.made
