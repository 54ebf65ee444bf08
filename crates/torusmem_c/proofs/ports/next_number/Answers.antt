-- The output that a router chooses lies in a dimension of the torus.
use Rattle.dateline_route.proofs.First.{chosen_inside}
use Rattle.torusmem_c.proofs.ports.next_number.Goals as goal

pub output_number-requires : goal.output_number-requires
output_number-requires c =
    rw (c.next-output.ensures) (chosen_inside c.args.torus.now c.args.at c.input_numbered.result c.args.dst)
