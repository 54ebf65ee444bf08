use Rattle.std.proofs.Common.{◌≡◌, ◌<◌, ◌≤◌, ℕ, true}
use Rattle.model_text.specs.Finals.{is_final}
use Rattle.model_text.specs.Traces.{logged_at}
use Rattle.model_replies.proofs.steps.closing_of.Given as goal

-- all steps so far from the first final word on are final words
abbrev pub invariant-loop-x : goal.invariant-loop-x
invariant-loop-x l = (k : ℕ) → l.closing ≤ k → k < l.x → is_final (logged_at l.steps k) ≡ true
