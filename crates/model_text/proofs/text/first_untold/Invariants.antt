use Rattle.std.proofs.Common.{◌≡◌, drop}
use Rattle.model_text.specs.Lines.{first_untold}
use Rattle.model_text.proofs.text.first_untold.Given as goal

-- the first one isn't among those so far
abbrev pub invariant-loop-i : goal.invariant-loop-i
invariant-loop-i l = first_untold (drop l.i l.made) ≡ first_untold l.made
