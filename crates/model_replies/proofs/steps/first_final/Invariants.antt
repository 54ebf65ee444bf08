use Rattle.std.proofs.Common.{◌≡◌, ◌<◌, ℕ, false}
use Rattle.model_text.specs.Finals.{is_final}
use Rattle.model_text.specs.Traces.{logged_at}
use Rattle.model_replies.proofs.steps.first_final.Given as goal

-- no step so far is a final word
abbrev pub invariant-loop-x : goal.invariant-loop-x
invariant-loop-x l = (k : ℕ) → k < l.x → is_final (logged_at l.steps k) ≡ false
