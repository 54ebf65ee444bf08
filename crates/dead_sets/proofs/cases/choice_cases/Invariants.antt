use Rattle.std.proofs.Common.{length}
use Rattle.dead_sets.specs.Cases.{AreCases, AddsCases}
use Rattle.dead_sets.proofs.Gathered.{ChoicesSo}
use Rattle.dead_sets.proofs.cases.choice_cases.Given as goal

-- the channels so far
abbrev pub invariant-loop-x : goal.invariant-loop-x
invariant-loop-x g l = record {
  within : AreCases (length l.kinds) l.cases.at.items l.cases.ways_out.items;
  added : AddsCases (ChoicesSo l.kinds l.choices l.base l.ways l.seen l.x) l.initial.cases.at.items l.initial.cases.ways_out.items
      l.cases.at.items l.cases.ways_out.items;
}
