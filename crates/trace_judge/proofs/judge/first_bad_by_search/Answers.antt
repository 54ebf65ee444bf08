use Rattle.trace_judge.proofs.Boundary.{whole_beginning}
use Rattle.trace_judge.proofs.Guessing.{good_where_none}
use Rattle.trace_judge.proofs.judge.first_bad_by_search.Goals as goal

pub find_order-requires-clause-beginning : goal.find_order-requires-clause-beginning
find_order-requires-clause-beginning g c = whole_beginning c.args.events.now

pub first_bad-requires-clause-good : goal.first_bad-requires-clause-good
first_bad-requires-clause-good g c =
    good_where_none c.args.opening.now c.args.events.now c.in_ok-_none._none _ c.requires.none
    c.in_ok-_none.ensures.decided c.in_ok-_none.ensures.ended
