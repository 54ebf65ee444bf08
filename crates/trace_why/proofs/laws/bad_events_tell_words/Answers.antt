use Rattle.trace_why.proofs.Bad.{bad_event}
use Rattle.trace_why.proofs.laws.bad_events_tell_words.Goals as goal

pub returns : goal.returns
returns c = λ opening trace k t l good bad. bad_event opening trace k t l good bad
