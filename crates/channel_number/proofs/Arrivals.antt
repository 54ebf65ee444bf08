-- A hop arrives from where it leads back to.
use Rattle.std.proofs.Common.{◌≡◌, ℕ, ◌<◌, refl, subst}
use Rattle.torus.specs.Shape.{Shape, IsAccepted, IsNeighbour, dims_of, tiles_of, radix_of, digit_of, one_hop}
use Rattle.torus.specs.declared.shape.Dir.{Dir}
use Rattle.torus.specs.declared.shape.Dir.TheVariants.{Plus, Minus}
use Rattle.torus.proofs.Hops.{one_neighbour, plus-minus, minus-plus}
use Rattle.dateline_route.specs.Route.{with_digit}
use Rattle.dateline_route.proofs.Neighbours.{hop_is}
use Rattle.channel_number.specs.Ports.{opposite, hop_source}

back : (s : Shape) → IsAccepted s → (t d u : ℕ) (dir : Dir) → t < tiles_of s → d < dims_of s → IsNeighbour s t d dir u → IsNeighbour s u d (opposite dir) t
back s h t d u Plus low inside n = plus-minus s h t d u low inside n
back s h t d u Minus low inside n = minus-plus s h t d u low inside n

opposite_twice : (dir : Dir) → opposite (opposite dir) ≡ dir
opposite_twice Plus = refl
opposite_twice Minus = refl

-- the hop from where it arrives leads back
pub hop_from_source : (s : Shape) → IsAccepted s → (t d : ℕ) (dir : Dir) → t < tiles_of s → d < dims_of s
    → (hop_source s t d dir < tiles_of s) × (with_digit s (hop_source s t d dir) d (one_hop dir (radix_of s d) (digit_of s (hop_source s t d dir) d)) ≡ t)
hop_from_source s h t d dir low inside =
    let u : ℕ = hop_source s t d dir in
    let there : IsNeighbour s t d (opposite dir) u = hop_is s h t d (opposite dir) low inside in
    let again : IsNeighbour s u d dir t = subst (λ w. IsNeighbour s u d w t) (opposite_twice dir) (back s h t d u (opposite dir) low inside there) in
    (there.tile, one_neighbour s h u d (with_digit s u d (one_hop dir (radix_of s d) (digit_of s u d))) t dir (hop_is s h u d dir there.tile inside) again)

-- and the hop to a tile arrives from its own
pub source_of_hop : (s : Shape) → IsAccepted s → (u d : ℕ) (dir : Dir) → u < tiles_of s → d < dims_of s
    → (with_digit s u d (one_hop dir (radix_of s d) (digit_of s u d)) < tiles_of s)
    × (hop_source s (with_digit s u d (one_hop dir (radix_of s d) (digit_of s u d))) d dir ≡ u)
source_of_hop s h u d dir low inside =
    let t : ℕ = with_digit s u d (one_hop dir (radix_of s d) (digit_of s u d)) in
    let there : IsNeighbour s u d dir t = hop_is s h u d dir low inside in
    let again : IsNeighbour s t d (opposite dir) u = back s h u d t dir low inside there in
    (there.tile, one_neighbour s h t d (hop_source s t d dir) u (opposite dir) (hop_is s h t d (opposite dir) there.tile inside) again)
