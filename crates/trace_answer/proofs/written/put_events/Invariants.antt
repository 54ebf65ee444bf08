use Rattle.std.proofs.Common.{◌≡◌, ◌++◌, length}
use Rattle.std.specs.List.{flat_map}
use Rattle.trace_answer.specs.Written.{event_text}
use Rattle.trace_answer.proofs.written.put_events.Given as goal

abbrev pub invariant-loop-left : goal.invariant-loop-left
invariant-loop-left g l =
    l.text.items ++ flat_map (event_text l.trace l.kept) l.left ≡ l.fn.text.items ++ flat_map (event_text l.trace l.kept) l.events

abbrev pub decreases-loop-left : goal.decreases-loop-left
decreases-loop-left g l = length l.left
