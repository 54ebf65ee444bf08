use Rattle.std.proofs.Common.{arith, length}
use Rattle.model_text.proofs.Growing.{place_low}
use Rattle.model_text.proofs.trace.trace_spot.Goals as goal

pub overflow_add-result : goal.overflow_add-result
overflow_add-result g c =
    omega (arith, c.place_of.ensures, place_low c.args.numbers.now (length c.args.places.now) c.args.n, c.len.ensures)
