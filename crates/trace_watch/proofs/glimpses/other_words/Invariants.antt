use Rattle.std.proofs.Common.{◌≡◌, ◌++◌}
use Rattle.std.specs.Prelude.{drop}
use Rattle.trace_watch.specs.States.{other_words}
use Rattle.trace_watch.proofs.glimpses.other_words.Given as goal

abbrev pub invariant-loop-i : goal.invariant-loop-i
invariant-loop-i g l = other_words l.word l.seen ≡ l.others.items ++ other_words l.word (drop l.i l.seen)
