use Rattle.std.proofs.Common.{◌≡◌, slice_get}
use Rattle.std.specs.List.{flat_map, range_with_len}
use Rattle.trace_answer.specs.Written.{opening_at}
use Rattle.trace_answer.proofs.written.openings.Given as goal

abbrev pub invariant-loop-k : goal.invariant-loop-k
invariant-loop-k g l =
    l.all.items ≡ flat_map (λ k. opening_at l.trace l.kept k (slice_get l.trace.issued k)) (range_with_len 0 l.k)
