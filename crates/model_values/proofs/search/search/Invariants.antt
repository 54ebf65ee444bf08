use Rattle.model_values.proofs.Searching.{IsSearching}
use Rattle.model_values.proofs.Weights.{left_of}
use Rattle.model_values.proofs.search.search.Given as goal

-- the search stands at a path, or no order explains the trace
abbrev pub invariant-tables : goal.invariant-tables
invariant-tables g l = IsSearching l.question l.fn.nodes l.left l.more l.table l.path.items

-- how many tables it looks at yet, at most
abbrev pub decreases-tables : goal.decreases-tables
decreases-tables g l = left_of l.more l.path.items l.table
