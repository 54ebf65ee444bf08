use Rattle.trace_zones.proofs.Meeting.{early}
use Rattle.trace_zones.proofs.laws.words_found_before_their_write_have_no_order.Goals as goal

pub returns : goal.returns
returns c = λ opening trace w set t l h is. early opening trace w set t l h is.0 is.1
