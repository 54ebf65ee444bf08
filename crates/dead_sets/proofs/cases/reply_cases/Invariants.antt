use Rattle.dead_sets.specs.Cases.{AreCases, AddsCases}
use Rattle.dead_sets.proofs.Gathered.{RepliesSo}
use Rattle.dead_sets.proofs.cases.reply_cases.Given as goal

-- the replies so far
abbrev pub invariant-loop-place : goal.invariant-loop-place
invariant-loop-place g l = record {
  within : AreCases l.count l.cases.at.items l.cases.ways_out.items;
  added : AddsCases (RepliesSo l.count l.replies l.from l.place) l.initial.cases.at.items l.initial.cases.ways_out.items
      l.cases.at.items l.cases.ways_out.items;
}
