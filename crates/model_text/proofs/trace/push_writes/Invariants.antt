use Rattle.std.proofs.Common.{◌≡◌, ◌++◌, [], ◌∷◌, map, take}
use Rattle.model_text.specs.Traces.{trace_spot}
use Rattle.model_text.specs.Views.{log_so_far}
use Rattle.model_text.proofs.trace.push_writes.Given as goal

-- the writes so far
abbrev pub invariant-loop-i : goal.invariant-loop-i
invariant-loop-i g l = l.writes.items ≡ (l.fn.writes.items ++ l.w ∷ []) ++ map (trace_spot (log_so_far l.log)) (take l.i l.order)
