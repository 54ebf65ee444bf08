use Rattle.trace_zones.proofs.Meeting.{left_twice}
use Rattle.trace_zones.proofs.laws.zones_that_are_left_twice_have_no_order.Goals as goal

pub returns : goal.returns
returns c = λ opening trace w set c d t l z m n f g e is. left_twice opening trace w set c d t l z m n f g e is.0 is.1
