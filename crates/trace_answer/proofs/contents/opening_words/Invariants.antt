use Rattle.std.proofs.Common.{◌≡◌, take}
use Rattle.trace_text.specs.Traced.{opening_of}
use Rattle.trace_answer.proofs.contents.opening_words.Given as goal

-- the words of the addresses so far
abbrev pub invariant-loop-address : goal.invariant-loop-address
invariant-loop-address g l = l.words.items ≡ take l.address (opening_of l.trace)
