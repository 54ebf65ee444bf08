use Rattle.trace_zones.proofs.Meeting.{different_zones}
use Rattle.trace_zones.proofs.laws.different_words_are_zones.Goals as goal

pub returns : goal.returns
returns c = λ opening trace w v a. different_zones opening trace w v a
