-- Tiles on the way: one digit in place of another.
use Rattle.std.proofs.Common.{◌≡◌, ◌≢◌, ℕ, ◌+◌, ◌-◌, ◌*◌, ◌<◌, ◌≤◌, zero, suc, refl, sym, ◌∙◌, ap, arith, inl, inr, take}
use Rattle.std.proofs.lemmas.Bool.{cases_eq}
use Rattle.std.proofs.Math.Nat.{mul_comm}
use Rattle.torus.specs.Shape.{Shape, IsAccepted, IsNeighbour, product, dims_of, tiles_of, radix_of, digit_of, one_hop}
use Rattle.torus.specs.declared.shape.Dir.{Dir}
use Rattle.torus.proofs.Hops.{IsMoved, moved_by_sum, same_tile, digit_below, digit_within}
use Rattle.dateline_route.specs.Route.{with_digit, corrected}

own_below : (s : Shape) (t d : ℕ) → digit_of s t d * product (take d s.radices) ≤ t
own_below s t d = digit_within t (product (take d s.radices)) (radix_of s d)

sums : (t here there p : ℕ) → here * p ≤ t → ((t - here * p) + there * p) + p * here ≡ t + p * there
sums t here there p low = omega (arith, mul_comm p here, mul_comm p there)

-- the tile with one digit changed
pub with_digit_moved : (s : Shape) → IsAccepted s → (t d y : ℕ) → t < tiles_of s → d < dims_of s → y < radix_of s d → IsMoved s t d y (with_digit s t d y)
with_digit_moved s h t d y below low small =
    moved_by_sum s h t d y (with_digit s t d y) below low small (sums t (digit_of s t d) y (product (take d s.radices)) (own_below s t d))

pub with_digit_own : (s : Shape) (t d : ℕ) → with_digit s t d (digit_of s t d) ≡ t
with_digit_own s t d = let low = own_below s t d in omega arith

-- a tile is known by its digits
pub moved_is : (s : Shape) → IsAccepted s → (t d y u v : ℕ) → IsMoved s t d y u → IsMoved s t d y v → u ≡ v
moved_is s h t d y u v m n =
    same_tile s h u v m.tile n.tile (λ e low. elim (cases_eq e d) [
      | inl same ↦ (rw same (m.moved ∙ sym n.moved))
      | inr other ↦ m.kept e low other ∙ sym (n.kept e low other)
    ])

-- one hop on from there
pub hop_moves : (s : Shape) → IsAccepted s → (t d y u v : ℕ) (dir : Dir) → IsMoved s t d y u → IsNeighbour s u d dir v
    → IsMoved s t d (one_hop dir (radix_of s d) y) v
hop_moves s h t d y u v dir m n = record {
  tile = n.tile;
  moved = n.moved ∙ ap (one_hop dir (radix_of s d)) m.moved;
  kept = λ e low other. n.kept e low other ∙ m.kept e low other;
}

pub moved_hop : (s : Shape) (t d y u v : ℕ) (dir : Dir) → IsMoved s t d y u → IsMoved s t d (one_hop dir (radix_of s d) y) v → IsNeighbour s u d dir v
moved_hop s t d y u v dir m n = record {
  tile = n.tile;
  moved = n.moved ∙ ap (one_hop dir (radix_of s d)) (sym m.moved);
  kept = λ e low other. n.kept e low other ∙ sym (m.kept e low other);
}

-- the digits of a tile on the way: the destination's below d, the source's from d on
pub record IsCorrected (s : Shape) (src dst d u : ℕ) : Type 0 where
  pub tile : u < tiles_of s
  pub below : (e : ℕ) → e < d → digit_of s u e ≡ digit_of s dst e
  pub above : (e : ℕ) → e < dims_of s → d ≤ e → digit_of s u e ≡ digit_of s src e

pub corrected_is : (s : Shape) → IsAccepted s → (src dst d : ℕ) → src < tiles_of s → dst < tiles_of s → d ≤ dims_of s
    → IsCorrected s src dst d (corrected s src dst d)
corrected_is s h src dst zero from to low = record {
  tile = from;
  below = λ e under. absurd (omega arith);
  above = λ e under over. refl;
}
corrected_is s h src dst (suc d) from to low =
    let before : IsCorrected s src dst d (corrected s src dst d) = corrected_is s h src dst d from to (omega arith) in
    let inside : d < dims_of s = omega arith in
    let m : IsMoved s (corrected s src dst d) d (digit_of s dst d) (corrected s src dst (suc d)) =
    with_digit_moved s h (corrected s src dst d) d (digit_of s dst d) before.tile inside (digit_below s h dst d inside) in
    record {
      tile = m.tile;
      below = λ e under. elim (cases_eq e d) [
        | inl same ↦ (rw same m.moved)
        | inr other ↦ (let lower : e < d = omega arith in m.kept e (omega arith) other ∙ before.below e lower)
      ];
      above = λ e under over. (let other : e ≢ d = omega arith in m.kept e under other ∙ before.above e under (omega arith));
    }

pub corrected_all : (s : Shape) → IsAccepted s → (src dst : ℕ) → src < tiles_of s → dst < tiles_of s → corrected s src dst (dims_of s) ≡ dst
corrected_all s h src dst from to =
    let last : IsCorrected s src dst (dims_of s) (corrected s src dst (dims_of s)) = corrected_is s h src dst (dims_of s) from to (omega arith) in
    same_tile s h (corrected s src dst (dims_of s)) dst last.tile to last.below
