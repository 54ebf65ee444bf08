use Rattle.trace_laws.proofs.Unanswered.{without_loads}
use Rattle.trace_laws.proofs.laws.unanswered_loads_say_nothing.Goals as goal

pub returns : goal.returns
returns c = λ opening trace short is without. without_loads opening trace short is without
