use Rattle.trace_laws.proofs.Unanswered.{to_fewer_answers}
use Rattle.trace_laws.proofs.laws.answers_may_be_left_out.Goals as goal

pub returns : goal.returns
returns c = λ opening trace fewer order without o. to_fewer_answers opening trace fewer order o without
