use Rattle.trace_why.proofs.Listing.{Opening}
use Rattle.trace_why.proofs.open.open_on.Given as goal

abbrev pub invariant-loop-i : goal.invariant-loop-i
invariant-loop-i g l = Opening l.events l.k l.address l.i l.pending.items
