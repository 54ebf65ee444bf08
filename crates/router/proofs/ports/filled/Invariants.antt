use Rattle.std.proofs.Common.{◌≡◌, replicate}
use Rattle.router.proofs.ports.filled.Given as goal

abbrev pub invariant-loop : goal.invariant-loop
invariant-loop g l = record { counted : l.items.items ≡ replicate l.counter l.item }
