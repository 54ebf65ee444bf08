use Rattle.state_search.specs.Parts.{AreWithin}
use Rattle.state_search.proofs.parts.leave_out_chunk.Given as goal

abbrev pub invariant-loop-k : goal.invariant-loop-k
invariant-loop-k l = AreWithin l.kept l.initial.kept
