use Rattle.network_machine.proofs.Making.{moved}
use Rattle.network_machine.proofs.machine.Machine.attempt.Goals as goal

pub returns-clause-moves : goal.returns-clause-moves
returns-clause-moves g c =
    moved c.args.self.now c.make-made.new.self c.args.of c.hindrance.ensures.arrive c.make-made.ensures.same c.in_default.ensures.settles c.make-made.result c.make-made.ensures.made
