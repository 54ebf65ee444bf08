use Rattle.std.proofs.Common.{◌≡◌, ℕ, ◌<◌}
use Rattle.std.specs.Prelude.{◌/◌, take}
use Rattle.torus.specs.Shape.{digit_of, product}
use Rattle.dateline_route.proofs.hop.next.Given as goal

-- the digits in the dimensions passed agree, and both numbers lack them
abbrev pub invariant-loop-dim : goal.invariant-loop-dim
invariant-loop-dim l = (l.here ≡ l.at / product (take l.dim l.torus.radices)) × (l.there ≡ l.dst / product (take l.dim l.torus.radices))
    × ((e : ℕ) → e < l.dim → digit_of l.torus l.at e ≡ digit_of l.torus l.dst e)
