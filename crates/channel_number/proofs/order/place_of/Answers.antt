use Rattle.std.proofs.Common.{arith}
use Rattle.channel_number.proofs.Orders.{hop_inside}
use Rattle.channel_number.proofs.order.place_of.Goals as goal

pub overflow_mul-result : goal.overflow_mul-result
overflow_mul-result c = omega
    (arith, hop_inside c.args.torus.now c.args.kind c.in-Hop.dim c.in-Hop.dir c.in-Hop.bit c.in-Hop.is c.requires, c.dims-dims.ensures.accepted.dims_high)

pub overflow_add-result : goal.overflow_add-result
overflow_add-result c = omega
    (arith, hop_inside c.args.torus.now c.args.kind c.in-Hop.dim c.in-Hop.dir c.in-Hop.bit c.in-Hop.is c.requires, c.dims-dims.ensures.accepted.dims_high)

pub overflow_add-result-in-Hop : goal.overflow_add-result-in-Hop
overflow_add-result-in-Hop c =
    omega (arith, hop_inside c.args.torus.now c.args.kind c.in-Hop.dim c.in-Hop.dir c.in-Hop.bit c.in-Hop.is c.requires, c.dims-dims.ensures.accepted.dims_high)

pub overflow_add-result-in-Hop-2 : goal.overflow_add-result-in-Hop-2
overflow_add-result-in-Hop-2 c =
    omega (arith, hop_inside c.args.torus.now c.args.kind c.in-Hop.dim c.in-Hop.dir c.in-Hop.bit c.in-Hop.is c.requires, c.dims-dims.ensures.accepted.dims_high)
