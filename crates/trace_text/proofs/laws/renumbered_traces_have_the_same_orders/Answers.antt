use Rattle.trace_text.proofs.Renumbered.{order_there, order_back}
use Rattle.trace_text.proofs.laws.renumbered_traces_have_the_same_orders.Goals as goal

pub returns-clause-there : goal.returns-clause-there
returns-clause-there c = λ place back opening others trace order r o. order_there place back opening others trace r order o

pub returns-clause-back : goal.returns-clause-back
returns-clause-back c = λ place back opening others trace order r o. order_back place back opening others trace r order o
