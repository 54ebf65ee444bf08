use Rattle.model_values.specs.Choices.{AreChosen}
use Rattle.model_values.proofs.looking.sources_of.Given as goal

-- the sources so far
abbrev pub invariant-loop-k : goal.invariant-loop-k
invariant-loop-k g l = AreChosen l.path l.depth l.count l.sources.items
