use Rattle.std.proofs.Common.{◌≡◌, ◌<◌, ℕ, false, not, get_or}
use Rattle.lexer.specs.Words.{is_blank}
use Rattle.model_text.proofs.words.blanks_end.Given as goal

abbrev pub invariant-loop-i : goal.invariant-loop-i
invariant-loop-i l = (k : ℕ) → k < l.i → not (is_blank (get_or l.line k 0)) ≡ false
