use Rattle.std.proofs.Common.{◌≡◌, map, Some}
use Rattle.fabric.proofs.taking.filled.Given as goal

abbrev pub invariant-loop-value : goal.invariant-loop-value
invariant-loop-value g l = l.all.items ≡ map (λ x. Some x) l.yielded
