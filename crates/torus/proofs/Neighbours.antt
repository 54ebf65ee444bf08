-- Each hop leads to a tile, and to another one.
use Rattle.std.proofs.Common.{◌≡◌, ◌≢◌, ℕ, ◌+◌, ◌-◌, ◌*◌, ◌%◌, ◌<◌, ◌≤◌, zero, suc, take, refl, sym, ◌∙◌, ap, subst, arith, inl, inr, add-one, zero-add}
use Rattle.std.proofs.lemmas.Nat.{mod_below}
use Rattle.std.proofs.Math.Nat.{mod_self, mod-eq_of_lt, add-mod_right, eq-or-lt_of_le}
use Rattle.torus.specs.Shape.{Shape, product, dims_of, tiles_of, radix_of, digit_of, one_hop, IsNeighbour, IsAccepted}
use Rattle.torus.specs.declared.shape.Dir.{Dir}
use Rattle.torus.specs.declared.shape.Dir.TheVariants.{Plus, Minus}
use Rattle.torus.proofs.Hops.{digit_below, digit_within, hop_is}

pub one_hop_below : (dir : Dir) (k x : ℕ) → 0 < k → one_hop dir k x < k
one_hop_below Plus k x some = mod_below (x + 1) k some
one_hop_below Minus k x some = mod_below (x + (k - 1)) k some

pub neighbour : (s : Shape) → IsAccepted s → (t d : ℕ) (dir : Dir) → t < tiles_of s → d < dims_of s → (u : ℕ) × IsNeighbour s t d dir u
neighbour s h t d dir below low =
    let here : ℕ = digit_of s t d in
    let there : ℕ = one_hop dir (radix_of s d) here in
    let stride : ℕ = product (take d s.radices) in
    let two = h.radix_low d low in (
      (t - here * stride) + there * stride,
      hop_is s h t d dir here there stride below low refl refl (one_hop_below dir (radix_of s d) here (omega arith)) refl
          (digit_within t stride (radix_of s d)),
    )

one_hop_moves : (dir : Dir) (k x : ℕ) → 2 ≤ k → x < k → one_hop dir k x ≢ x
one_hop_moves Plus k x two below e =
    elim (eq-or-lt_of_le below) [
      | inl last ↦ (let none : (x + 1) % k ≡ 0 = (rw (add-one, last) (mod_self k)) in absurd (omega arith))
      | inr inner ↦ (let next : x + 1 < k = omega arith in let up : (x + 1) % k ≡ x + 1 = mod-eq_of_lt next in absurd (omega arith))
    ]
one_hop_moves Minus k zero two below e =
    let small : k - 1 < k = omega arith in
    let down : (zero + (k - 1)) % k ≡ k - 1 = ap (λ n. n % k) (zero-add (k - 1)) ∙ mod-eq_of_lt small in
    absurd (omega arith)
one_hop_moves Minus k (suc x) two below e =
    let sum : suc x + (k - 1) ≡ x + k = omega arith in
    let small : x < k = omega arith in
    let down : (suc x + (k - 1)) % k ≡ x = ap (λ n. n % k) sum ∙ add-mod_right x k ∙ mod-eq_of_lt small in
    absurd (omega arith)

pub other_tile : (s : Shape) → IsAccepted s → (t d u : ℕ) (dir : Dir) → d < dims_of s → IsNeighbour s t d dir u → u ≢ t
other_tile s h t d u dir low n e =
    let P : ℕ → Type 0 = λ v. digit_of s v d ≡ one_hop dir (radix_of s d) (digit_of s t d) in
    one_hop_moves dir (radix_of s d) (digit_of s t d) (h.radix_low d low) (digit_below s h t d low) (sym (subst P e n.moved))
