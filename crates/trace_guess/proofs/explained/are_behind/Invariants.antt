use Rattle.std.proofs.Common.{◌≡◌, ◌<◌, ℕ, Some, slice_get}
use Rattle.trace_guess.specs.Explained.{IsBehindAnswered}
use Rattle.trace_guess.proofs.explained.are_behind.Given as goal

abbrev pub invariant-loop-x : goal.invariant-loop-x
invariant-loop-x l = (y i : ℕ) → y < l.x → slice_get l.issues y ≡ Some i → IsBehindAnswered l.heights l.places y i
