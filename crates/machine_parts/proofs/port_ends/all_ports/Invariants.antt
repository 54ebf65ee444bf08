use Rattle.std.proofs.Common.{◌≡◌, ◌/◌, map}
use Rattle.std.specs.List.{range_with_len}
use Rattle.machine_parts.specs.Ports.{ports_at}
use Rattle.machine_parts.proofs.port_ends.all_ports.Given as goal

-- the ends of the places so far
abbrev pub invariant-loop-place : goal.invariant-loop-place
invariant-loop-place g l = l.ends.items ≡ map (λ place. ports_at l.torus (place / l.depth)) (range_with_len 0 l.place)
