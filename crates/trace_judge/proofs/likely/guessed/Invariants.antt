use Rattle.std.proofs.Common.{take}
use Rattle.trace_judge.specs.Guesses.{IsLikely}
use Rattle.trace_judge.proofs.likely.guessed.Given as goal

abbrev pub invariant-loop-k : goal.invariant-loop-k
invariant-loop-k g l = IsLikely l.events (take l.k l.events) l.likely.items
