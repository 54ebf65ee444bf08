use Rattle.std.proofs.Common.{◌≡◌, map, take}
use Rattle.trace_text.specs.Findings.{place_of_address}
use Rattle.trace_text.specs.Renumbered.{moved_event}
use Rattle.trace_text.proofs.linearize.moved_events.Given as goal

abbrev pub invariant-loop-i : goal.invariant-loop-i
invariant-loop-i g l = l.all.items ≡ map (moved_event (place_of_address l.places.entries)) (take l.i l.events)
