use Rattle.std.proofs.Common.{◌≡◌, take}
use Rattle.trace_text.specs.Findings.{opening_words_at}
use Rattle.trace_text.proofs.linearize.opening_words_at.Given as goal

abbrev pub invariant-loop-i : goal.invariant-loop-i
invariant-loop-i g l = l.words.items ≡ opening_words_at l.head.inits (take l.i l.addresses)
