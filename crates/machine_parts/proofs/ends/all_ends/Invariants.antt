use Rattle.std.proofs.Common.{◌≡◌, ◌/◌, map}
use Rattle.std.specs.List.{range_with_len}
use Rattle.machine_parts.specs.Ends.{ends_of}
use Rattle.machine_parts.proofs.ends.all_ends.Given as goal

-- the ends of the places so far
abbrev pub invariant-loop-place : goal.invariant-loop-place
invariant-loop-place g l = l.ends.items ≡ map (λ place. ends_of l.torus (place / l.depth)) (range_with_len 0 l.place)
