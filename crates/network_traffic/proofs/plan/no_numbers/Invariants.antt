use Rattle.std.proofs.Common.{◌≡◌, [], map}
use Rattle.std.specs.List.{range_with_len}
use Rattle.network_traffic.specs.Plans.{numbers_of}
use Rattle.network_traffic.proofs.plan.no_numbers.Given as goal

-- the lists so far
abbrev pub invariant-loop-x : goal.invariant-loop-x
invariant-loop-x g l = map (λ numbers. numbers.items) l.all.items ≡ map (numbers_of []) (range_with_len 0 l._x)
