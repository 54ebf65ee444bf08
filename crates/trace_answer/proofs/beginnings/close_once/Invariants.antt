use Rattle.trace_answer.proofs.beginnings.close_once.Given as goal

abbrev pub decreases-events : goal.decreases-events
decreases-events g l = l.i
