use Rattle.std.proofs.Common.{◌≡◌, map, take}
use Rattle.model_replies.specs.Steps.{found_word}
use Rattle.model_replies.proofs.steps.words_found.Given as goal

-- the words so far
abbrev pub invariant-loop-i : goal.invariant-loop-i
invariant-loop-i g l = l.words.items ≡ map found_word (take l.i l.steps)
