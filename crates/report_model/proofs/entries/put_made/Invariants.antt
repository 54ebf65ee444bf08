use Rattle.std.proofs.Common.{◌≡◌, ◌++◌, map, take}
use Rattle.report_model.specs.Entries.{made_entry}
use Rattle.report_model.proofs.entries.put_made.Given as goal

-- the operations so far
abbrev pub invariant-loop-k : goal.invariant-loop-k
invariant-loop-k g l = l.entries.items ≡ l.fn.entries.items ++ map made_entry (take l.k l.steps)
