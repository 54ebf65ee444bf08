use Rattle.trace_zones.proofs.Meeting.{conflict}
use Rattle.trace_zones.proofs.laws.zones_in_conflict_have_no_order.Goals as goal

pub returns : goal.returns
returns c = λ opening trace w one other t l z y apart before behind is. conflict opening trace w one other t l z y apart before behind is.0 is.1
