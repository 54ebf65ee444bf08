use Rattle.std.proofs.Common.{◌≡◌, ◌<◌, ℕ, false, get_or}
use Rattle.trace_zones.specs.Zones.{is_listed}
use Rattle.trace_zones.proofs.conflict.are_apart.Given as goal

abbrev pub invariant-loop-i : goal.invariant-loop-i
invariant-loop-i l = (k : ℕ) → k < l.i → is_listed l.other (get_or l.one k 0) ≡ false
