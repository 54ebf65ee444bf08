use Rattle.std.proofs.Common.{◌≡◌}
use Rattle.std.specs.List.{range_with_len}
use Rattle.trace_text.specs.Findings.{opening_words_at}
use Rattle.command_watch.proofs.watching.opening_words.Given as goal

abbrev pub invariant-loop-a : goal.invariant-loop-a
invariant-loop-a g l = l.words.items ≡ opening_words_at l.head.inits (range_with_len 0 l.a)
