use Rattle.std.proofs.Common.{◌≡◌, ℕ, None, length}
use Rattle.network_rounds.specs.Routers.{first_choosing}
use Rattle.network_rounds.proofs.routers.no_firsts.Given as goal

-- none so far
abbrev pub invariant-loop-noted : goal.invariant-loop-noted
invariant-loop-noted g l = record {
  size : length l.firsts.items ≡ l._noted;
  none : (y : ℕ) → first_choosing l.firsts.items y ≡ None;
}
