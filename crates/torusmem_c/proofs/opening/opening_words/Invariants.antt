use Rattle.std.proofs.Common.{◌≡◌, ◌++◌, replicate}
use Rattle.torusmem_c.proofs.opening.opening_words.Given as goal

-- the words that are given, and zeros so far
abbrev pub invariant-loop-place : goal.invariant-loop-place
invariant-loop-place l = l.opening.items ≡ l.given ++ replicate l.place 0
