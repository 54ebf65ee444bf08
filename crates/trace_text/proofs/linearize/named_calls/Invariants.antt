use Rattle.std.proofs.Common.{◌≡◌, map, take}
use Rattle.trace_text.specs.Findings.{placed_address}
use Rattle.trace_text.specs.Renumbered.{moved_call}
use Rattle.trace_text.proofs.linearize.named_calls.Given as goal

abbrev pub invariant-loop-i : goal.invariant-loop-i
invariant-loop-i g l = l.all.items ≡ map (moved_call (placed_address l.addresses)) (take l.i l.calls)
