use Rattle.std.proofs.Common.{◌≡◌, map, take}
use Rattle.std.specs.Prelude.{filter}
use Rattle.network_rounds.specs.Choices.{group_of, has_choices}
use Rattle.network_rounds.proofs.choices.groups_of.Given as goal

-- the groups so far
abbrev pub invariant-loop-k : goal.invariant-loop-k
invariant-loop-k g l =
    map (λ group. group.items) l.groups.items ≡ filter has_choices (map (group_of l.kinds l.routers) (take l.k l.parts.items))
