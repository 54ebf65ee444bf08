-- Hops lead to the tile with one digit changed, and away from their own.
use Rattle.std.proofs.Common.{◌≢◌, ℕ, ◌<◌, refl, sym, subst, arith}
use Rattle.torus.specs.Shape.{Shape, IsAccepted, IsNeighbour, dims_of, tiles_of, radix_of, digit_of, one_hop}
use Rattle.torus.specs.declared.shape.Dir.{Dir}
use Rattle.torus.proofs.Hops.{IsMoved}
use Rattle.torus.proofs.Neighbours.{one_hop_below, other_tile}
use Rattle.dateline_route.specs.declared.channel.Channel.{Channel}
use Rattle.dateline_route.specs.declared.channel.Kind.{Kind}
use Rattle.dateline_route.specs.declared.channel.Kind.TheVariants.{Injection, Hop, Ejection}
use Rattle.dateline_route.specs.Route.{with_digit}
use Rattle.dateline_route.specs.Walk.{LeadsTo, IsChannel, IsInside}
use Rattle.dateline_route.proofs.Tiles.{with_digit_moved, moved_hop}

-- a tile with a digit changed by one hop is the neighbour
pub hop_is : (s : Shape) → IsAccepted s → (t d : ℕ) (dir : Dir) → t < tiles_of s → d < dims_of s
    → IsNeighbour s t d dir (with_digit s t d (one_hop dir (radix_of s d) (digit_of s t d)))
hop_is s h t d dir low inside =
    let k : ℕ = radix_of s d in
    let two = h.radix_low d inside in
    let y : ℕ = one_hop dir k (digit_of s t d) in
    let small : y < k = one_hop_below dir k (digit_of s t d) (omega arith) in
    let own : IsMoved s t d (digit_of s t d) t = record { tile = low; moved = refl; kept = λ e under other. refl } in
    moved_hop s t d (digit_of s t d) t (with_digit s t d y) dir own (with_digit_moved s h t d y low inside small)

leads_away : (s : Shape) → IsAccepted s → (t : ℕ) (kind : Kind) → IsInside s kind → kind ≢ Injection → LeadsTo s t kind t → ⊥
leads_away s h t Injection inside not l = not refl
leads_away s h t (Hop d dir bit) inside not l = other_tile s h t d t dir inside l refl
leads_away s h t Ejection inside not l = l

-- a channel that leads to a tile's router is none that leaves it
pub apart : (s : Shape) → IsAccepted s → (x y : Channel) → IsChannel s x → LeadsTo s x.tile x.kind y.tile → y.kind ≢ Injection → x ≢ y
apart s h x y is leads kind e =
    let P : Channel → Type 0 = λ z. LeadsTo s x.tile x.kind z.tile in
    let Q : Channel → Type 0 = λ z. z.kind ≢ Injection in
    leads_away s h x.tile x.kind is.kind (subst Q (sym e) kind) (subst P (sym e) leads)
