use Rattle.network_machine.proofs.Puts.{no_output_puts_nothing}
use Rattle.network_machine.proofs.machine.Machine.way_out.Goals as goal

pub returns-in-None-clause-none : goal.returns-in-None-clause-none
returns-in-None-clause-none g c =
    no_output_puts_nothing c.args.self.now c.args.x c.in-Ok.flit c.output.ensures.size c.in-Ok.ensures.some c.in-None.ensures.none
