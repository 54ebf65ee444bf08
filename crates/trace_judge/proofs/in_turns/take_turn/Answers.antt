use Rattle.trace_judge.proofs.Boundary.{whole_beginning}
use Rattle.trace_judge.proofs.in_turns.take_turn.Goals as goal

pub find_order-requires-clause-beginning : goal.find_order-requires-clause-beginning
find_order-requires-clause-beginning g c = whole_beginning c.args.events.now
