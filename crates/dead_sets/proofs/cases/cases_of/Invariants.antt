use Rattle.std.proofs.Common.{[], length}
use Rattle.dead_sets.specs.Cases.{AreCases, AddsCases}
use Rattle.dead_sets.proofs.Gathered.{CasesSo}
use Rattle.dead_sets.proofs.cases.cases_of.Given as goal

-- the destinations so far
abbrev pub invariant-loop-to : goal.invariant-loop-to
invariant-loop-to g l = record {
  within : AreCases (length l.kinds) l.cases.at.items l.cases.ways_out.items;
  added : AddsCases (CasesSo l.kinds l.joins l.replies l.choices l.ways l.none l.to) [] [] l.cases.at.items l.cases.ways_out.items;
}
