use Rattle.std.proofs.Common.{◌≡◌, map}
use Rattle.std.specs.List.{range_with_len}
use Rattle.network_answer.specs.Causes.{dependency_cause}
use Rattle.network_answer.proofs.causes.dependency_causes.Given as goal

abbrev pub invariant-loop-k : goal.invariant-loop-k
invariant-loop-k g l = l.causes.items ≡ map (dependency_cause l.edges) (range_with_len 0 l.k)
