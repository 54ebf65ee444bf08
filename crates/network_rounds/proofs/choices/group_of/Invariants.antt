use Rattle.std.proofs.Common.{◌≡◌}
use Rattle.std.specs.Prelude.{option_to_list}
use Rattle.std.specs.List.{flat_map, range_with_len}
use Rattle.network_rounds.specs.Choices.{choice_in_part}
use Rattle.network_rounds.proofs.choices.group_of.Given as goal

-- the choices of the channels so far
abbrev pub invariant-loop-x : goal.invariant-loop-x
invariant-loop-x g l = l.group.items ≡ flat_map (λ x. option_to_list (choice_in_part l.kinds l.routers l.part x)) (range_with_len 0 l.x)
