use Rattle.std.proofs.Common.{◌≡◌, ◌<◌, ℕ, not, false, get_or}
use Rattle.std.specs.Char.{is_ascii_digit}
use Rattle.network_names.proofs.named.digits_of.Given as goal

abbrev pub invariant-loop-i : goal.invariant-loop-i
invariant-loop-i l = (k : ℕ) → k < l.i → not (is_ascii_digit (get_or l.word k 0)) ≡ false
