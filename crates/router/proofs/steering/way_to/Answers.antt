use Rattle.std.proofs.Common.{◌≡◌, sym, subst}
use Rattle.torus.specs.Shape.{dims_of}
use Rattle.dateline_route.specs.declared.channel.Output.{Output}
use Rattle.router.specs.Ways.{HasDimension}
use Rattle.router.proofs.Ways.{next_is_output}
use Rattle.router.proofs.steering.way_to.Goals as goal

pub output_number-requires-clause-output : goal.output_number-requires-clause-output
output_number-requires-clause-output c =
    rw c.dims.ensures.value
    (subst (λ (o : Output). HasDimension (dims_of c.args.torus.now) o) (sym c.next-output.ensures)
    (next_is_output c.args.torus.now c.args.tile c.args.dst))
