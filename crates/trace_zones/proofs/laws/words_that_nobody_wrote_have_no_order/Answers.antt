use Rattle.trace_zones.proofs.Meeting.{unwritten}
use Rattle.trace_zones.proofs.laws.words_that_nobody_wrote_have_no_order.Goals as goal

pub returns : goal.returns
returns c = λ opening trace w set t l h is. unwritten opening trace w set t l h is.0 is.1
