use Rattle.std.proofs.Common.{◌≡◌, ◌++◌, take}
use Rattle.std.specs.List.{flat_map}
use Rattle.report_model.specs.Entries.{services}
use Rattle.report_model.proofs.entries.put_services.Given as goal

-- the services so far
abbrev pub invariant-loop-k : goal.invariant-loop-k
invariant-loop-k g l = l.entries.items ≡ l.fn.entries.items ++ flat_map (services l.steps) (take l.k l.rows)
