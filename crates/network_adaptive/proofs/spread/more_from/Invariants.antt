use Rattle.std.proofs.Common.{◌+◌, ◌*◌}
use Rattle.network_adaptive.specs.Spread.{opens, HasMore}
use Rattle.network_adaptive.proofs.spread.more_from.Given as goal

-- the flags of the choices so far are up
abbrev pub invariant-loop-k : goal.invariant-loop-k
invariant-loop-k g l = HasMore (opens l.count l.choices (l.base + l.x * l.ways) l.k l.shut) l.initial.seen l.seen l.initial.list.items l.list.items
