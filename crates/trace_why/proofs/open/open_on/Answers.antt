use Rattle.trace_why.proofs.Listing.{opening_skip, opening_push}
use Rattle.trace_why.proofs.open.open_on.Goals as goal
use Rattle.trace_why.proofs.open.open_on.Goals.{in-Some+in_ok-push, in_default}

pub loop-i-preserved : goal.loop-i-preserved
loop-i-preserved g c = elim c.match-opened.branch [
  | in-Some+in_ok-push w ↦ rw (w.pending-is, w.in_ok-push.ensures.items)
      (opening_push c.args.events.now c.args.k c.args.address c.loop-i.i c.loop-i.pending.items w.in-Some.call c.loop-i.invariant
      w.in-Some.ensures.0 w.in-Some.ensures.1)
  | in_default w ↦ rw w.pending-is
      (opening_skip c.args.events.now c.args.k c.args.address c.loop-i.i c.loop-i.pending.items c.loop-i.invariant w.in_default.ensures)
]
