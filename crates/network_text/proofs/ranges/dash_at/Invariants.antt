use Rattle.std.proofs.Common.{◌≡◌, ◌<◌, ℕ, false, get_or}
use Rattle.network_text.specs.Ranges.{is_dash}
use Rattle.network_text.proofs.ranges.dash_at.Given as goal

-- no dash so far
abbrev pub invariant-loop-i : goal.invariant-loop-i
invariant-loop-i l = (k : ℕ) → k < l.i → is_dash (get_or l.part k 0) ≡ false
