use Rattle.std.proofs.Common.{◌≡◌, take}
use Rattle.trace_watch.proofs.Copies.{all_configs}
use Rattle.trace_watch.proofs.copying.words_copied.Given as goal

-- the words so far are copied
abbrev pub invariant-loop-i : goal.invariant-loop-i
invariant-loop-i g l = all_configs l.copies.items ≡ all_configs (take l.i l.words)
