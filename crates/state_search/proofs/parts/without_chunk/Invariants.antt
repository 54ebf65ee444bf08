use Rattle.state_search.specs.Parts.{AreWithin}
use Rattle.state_search.proofs.parts.without_chunk.Given as goal

abbrev pub invariant-loop : goal.invariant-loop
invariant-loop g l = AreWithin l.rest.items l.kept
