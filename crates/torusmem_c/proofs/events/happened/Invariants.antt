use Rattle.std.proofs.Common.{◌≡◌, take}
use Rattle.std.specs.Prelude.{filter}
use Rattle.std.specs.List.{flat_map}
use Rattle.torusmem_c.specs.Happened.{happened_to, is_since}
use Rattle.torusmem_c.proofs.events.happened.Given as goal

-- what happened to the operations so far is there
abbrev pub invariant-loop-row : goal.invariant-loop-row
invariant-loop-row l = l.events.items ≡ filter (is_since l.from) (flat_map happened_to (take l.row-index l.rows))
