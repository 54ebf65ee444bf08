use Rattle.std.proofs.Common.{◌≡◌, map}
use Rattle.std.specs.List.{range_with_len}
use Rattle.trace_answer.specs.Services.{service_of}
use Rattle.trace_answer.proofs.services.services_with.Given as goal

-- the services so far
abbrev pub invariant-loop-i : goal.invariant-loop-i
invariant-loop-i g l = l.services.items ≡ map (service_of l.trace l.tiles l.times l.order) (range_with_len 0 l.i)
