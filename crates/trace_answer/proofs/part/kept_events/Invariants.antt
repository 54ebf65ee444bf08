use Rattle.std.proofs.Common.{◌≡◌, filter, take}
use Rattle.trace_answer.specs.Kept.{is_of_kept}
use Rattle.trace_answer.proofs.part.kept_events.Given as goal

abbrev pub invariant-loop-i : goal.invariant-loop-i
invariant-loop-i g l = l.all.items ≡ filter (is_of_kept l.kept) (take l.i l.events)
