use Rattle.network_machine.proofs.Making.{in_reach, moves_alone, prevents_alone}
use Rattle.network_machine.proofs.machine.Machine.try_alone.Goals as goal

pub make-requires : goal.make-requires
make-requires g c = in_reach c.args.self.now c.args.of c.requires.alone c.requires.here

pub returns-clause-moves : goal.returns-clause-moves
returns-clause-moves g c =
    moves_alone c.args.self.now c.make.new.self c.args.of c.requires.alone c.requires.arrive c.make.ensures.same c.make.result c.make.ensures.made

pub returns-clause-prevented : goal.returns-clause-prevented
returns-clause-prevented g c = prevents_alone c.args.self.now c.make.new.self c.args.of c.make.result c.make.ensures.made
