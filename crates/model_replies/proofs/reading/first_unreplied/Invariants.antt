use Rattle.std.proofs.Common.{◌≡◌, drop}
use Rattle.model_replies.specs.Reading.{first_unreplied}
use Rattle.model_replies.proofs.reading.first_unreplied.Given as goal

-- the first one isn't among those so far
abbrev pub invariant-loop-i : goal.invariant-loop-i
invariant-loop-i l = first_unreplied (drop l.i l.made) ≡ first_unreplied l.made
