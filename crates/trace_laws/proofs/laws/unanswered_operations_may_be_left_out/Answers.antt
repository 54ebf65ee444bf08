use Rattle.std.proofs.Common.{length}
use Rattle.trace_laws.proofs.Unanswered.{to_long}
use Rattle.trace_laws.proofs.laws.unanswered_operations_may_be_left_out.Goals as goal

pub returns : goal.returns
returns c = λ opening trace short order is without o. to_long opening (length opening) trace short order is o without
