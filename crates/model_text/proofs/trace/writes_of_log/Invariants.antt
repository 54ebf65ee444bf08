use Rattle.std.proofs.Common.{◌≡◌}
use Rattle.std.specs.List.{flat_map, range_with_len}
use Rattle.model_text.specs.Traces.{writes_of_word}
use Rattle.model_text.specs.Views.{log_so_far}
use Rattle.model_text.proofs.trace.writes_of_log.Given as goal

-- the writes of the words so far
abbrev pub invariant-loop-w : goal.invariant-loop-w
invariant-loop-w g l = l.writes.items ≡ flat_map (writes_of_word (log_so_far l.log)) (range_with_len 0 l.w)
