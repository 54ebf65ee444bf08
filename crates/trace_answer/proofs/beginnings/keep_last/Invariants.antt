use Rattle.trace_answer.proofs.beginnings.keep_last.Given as goal

abbrev pub decreases-events : goal.decreases-events
decreases-events g l = l.event
