use Rattle.model_values.specs.Forced.{AreForced}
use Rattle.model_values.proofs.forced.forced_edges.Given as goal

-- the pairs so far are forced
abbrev pub invariant-loop-k : goal.invariant-loop-k
invariant-loop-k g l = AreForced l.question l.edges.items
