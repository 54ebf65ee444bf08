use Rattle.std.proofs.Common.{◌≡◌, map}
use Rattle.std.specs.List.{range_with_len}
use Rattle.network_traffic.proofs.Numbers.{numbers_before}
use Rattle.network_traffic.proofs.plan.all_numbers.Given as goal

-- the numbers of the packets so far
abbrev pub invariant-loop-k : goal.invariant-loop-k
invariant-loop-k g l = map (λ numbers. numbers.items) l.all.items ≡ map (numbers_before l.packets l.k) (range_with_len 0 l.channels)
