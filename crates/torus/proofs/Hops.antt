-- One hop changes one digit and keeps the others; tiles and their digits determine each other.
use Rattle.std.proofs.Common.{◌≡◌, ◌≢◌, ℕ, ◌+◌, ◌-◌, ◌*◌, ◌/◌, ◌%◌, ◌<◌, ◌≤◌, zero, suc, List, [], ◌∷◌, length, take, refl, sym, ◌∙◌, ap, arith, inl, inr}
use Rattle.std.proofs.Common.{add-one, zero-add}
use Rattle.std.specs.Prelude.{slice_index, slice_set}
use Rattle.std.proofs.lemmas.List.{get_or-set_same, get_or-set_other}
use Rattle.std.proofs.lemmas.Grind.{same_number_lists}
use Rattle.std.proofs.lemmas.Nat.{mod_below, div-add-mod', mul-le, mod-mul-add, div-mul-add}
use Rattle.std.proofs.lemmas.Bool.{cases_eq}
use Rattle.std.proofs.Math.Nat.{mul_comm, div-mul-le_self, mod-le, mod_self, mod-eq_of_lt, add-mod_right, eq-or-lt_of_le}
use Rattle.torus.specs.Shape.{Shape, product, dims_of, tiles_of, radix_of, digit_of, one_hop, IsNeighbour, IsAccepted, home_of}
use Rattle.torus.specs.Digits.{AreDigits, AreInRange}
use Rattle.torus.specs.declared.shape.Dir.{Dir}
use Rattle.torus.specs.declared.shape.Dir.TheVariants.{Plus, Minus}
use Rattle.torus.proofs.MixedRadix.{digits, value, InRange, AllPositive, all_positive, product_positive, digits_in_range, digits-value, value-digits}
use Rattle.torus.proofs.MixedRadix.{value_below, digit_at, length-digits, value-set, in_range_set, in_range}

pub positive : (s : Shape) → IsAccepted s → AllPositive s.radices
positive s h = all_positive s.radices h.radix_low

-- the digits, one by one
pub digit_is : (s : Shape) (t d : ℕ) → d < dims_of s → slice_index (digits s.radices t) d ≡ digit_of s t d
digit_is s t d low = digit_at s.radices t d low

pub digit_below : (s : Shape) → IsAccepted s → (t d : ℕ) → d < dims_of s → digit_of s t d < radix_of s d
digit_below s h t d low =
    let some : 2 ≤ radix_of s d = h.radix_low d low in
    mod_below (t / product (take d s.radices)) (radix_of s d) (omega arith)

-- the tile whose digit d is y and whose other digits are those of t
pub record IsMoved (s : Shape) (t d y u : ℕ) : Type 0 where
  pub tile : u < tiles_of s
  pub moved : digit_of s u d ≡ y
  pub kept : (e : ℕ) → e < dims_of s → e ≢ d → digit_of s u e ≡ digit_of s t e

pub moved_by_sum : (s : Shape) → IsAccepted s → (t d y u : ℕ) → t < tiles_of s → d < dims_of s → y < radix_of s d →
    u + product (take d s.radices) * digit_of s t d ≡ t + product (take d s.radices) * y → IsMoved s t d y u
moved_by_sum s h t d y u below low small sum =
    let ks : List ℕ = s.radices in
    let ds : List ℕ = digits ks t in
    let range : InRange ks ds = digits_in_range ks t (positive s h) in
    let there : InRange ks (slice_set ds d y) = in_range_set ks ds d y range small in
    let same : value ks ds ≡ t = value-digits ks t (positive s h) below in
    let here : slice_index ds d ≡ digit_of s t d = digit_is s t d low in
    let sums : value ks (slice_set ds d y) + product (take d ks) * slice_index ds d ≡ value ks ds + product (take d ks) * y = value-set ks ds d y range low in
    let sums' : value ks (slice_set ds d y) + product (take d ks) * digit_of s t d ≡ t + product (take d ks) * y =
    ap (λ n. value ks (slice_set ds d y) + product (take d ks) * n) (sym here) ∙ sums ∙ ap (λ n. n + product (take d ks) * y) same in
    let is : value ks (slice_set ds d y) ≡ u = omega arith in
    let parts : digits ks u ≡ slice_set ds d y = (rw (← is) (digits-value ks (slice_set ds d y) there)) in
    let long : d < length ds = omega (arith, length-digits ks t) in
    record {
      tile = rw (← is) (value_below ks (slice_set ds d y) there);
      moved = sym (digit_is s u d low) ∙ ap (λ xs. slice_index xs d) parts ∙ get_or-set_same ds d y 0 long;
      kept = λ e inside other. sym (digit_is s u e inside) ∙ ap (λ xs. slice_index xs e) parts ∙ get_or-set_other ds d e y 0 other ∙ digit_is s t e inside;
    }

-- tiles with the same digits are one
pub same_tile : (s : Shape) → IsAccepted s → (t u : ℕ) → t < tiles_of s → u < tiles_of s →
    ((d : ℕ) → d < dims_of s → digit_of s t d ≡ digit_of s u d) → t ≡ u
same_tile s h t u below below' same =
    let ks : List ℕ = s.radices in
    let lists : digits ks t ≡ digits ks u = same_number_lists (digits ks t) (digits ks u) (length-digits ks t ∙ sym (length-digits ks u))
    (λ k low. let low' : k < dims_of s = omega (arith, length-digits ks t) in digit_is s t k low' ∙ same k low' ∙ sym (digit_is s u k low')) in
    sym (value-digits ks t (positive s h) below) ∙ ap (value ks) lists ∙ value-digits ks u (positive s h) below'

-- each list of digits in range is that of a tile
pub tile_from_digits : (s : Shape) → IsAccepted s → (ds : List ℕ) → AreInRange s ds → (t : ℕ) × (t < tiles_of s) × AreDigits s t ds
tile_from_digits s h ds range =
    let ks : List ℕ = s.radices in
    let inside : InRange ks ds = in_range ks ds range.count range.below in (
      value ks ds,
      value_below ks ds inside,
      record {
        count = range.count;
        each = λ d low. ap (λ xs. slice_index xs d) (sym (digits-value ks ds inside)) ∙ digit_is s (value ks ds) d low;
      },
    )

-- the tile that one hop leads to
pub hop_is : (s : Shape) → IsAccepted s → (t d : ℕ) (dir : Dir) (here there stride : ℕ) → t < tiles_of s → d < dims_of s →
    here ≡ digit_of s t d → there ≡ one_hop dir (radix_of s d) here → there < radix_of s d → stride ≡ product (take d s.radices) → here * stride ≤ t →
    IsNeighbour s t d dir ((t - here * stride) + there * stride)
hop_is s h t d dir here there stride below low here_is there_is small stride_is enough =
    let taken : product (take d s.radices) * digit_of s t d ≡ stride * here = cc in
    let given : product (take d s.radices) * there ≡ stride * there = cc in
    let sum : ((t - here * stride) + there * stride) + product (take d s.radices) * digit_of s t d ≡ t + product (take d s.radices) * there =
    omega (arith, mul_comm stride here, mul_comm stride there) in
    let moved : IsMoved s t d there ((t - here * stride) + there * stride) =
    moved_by_sum s h t d there ((t - here * stride) + there * stride) below low small sum in
    record {
      tile = moved.tile;
      moved = moved.moved ∙ there_is ∙ ap (one_hop dir (radix_of s d)) here_is;
      kept = moved.kept;
    }

pub digit_within : (t stride k : ℕ) → (t / stride) % k * stride ≤ t
digit_within t stride k = omega (arith, mul-le ((t / stride) % k) stride (t / stride) stride (mod-le (t / stride) k) (omega arith), div-mul-le_self t stride)

pub product-take-le : (ks : List ℕ) (d : ℕ) → AllPositive ks → product (take d ks) ≤ product ks
product-take-le ks zero h = product_positive ks h
product-take-le [] (suc d) h = omega arith
product-take-le (k ∷ ks) (suc d) h = mul-le k (product (take d ks)) k (product ks) (omega arith) (product-take-le ks d h.1)

-- a hop and the hop back
there_and_back : (k x : ℕ) → x < k → ((x + 1) % k + (k - 1)) % k ≡ x
there_and_back k x below =
    elim (eq-or-lt_of_le below) [
      | inl last ↦
          let zero_there : (x + 1) % k ≡ 0 = (rw (add-one, last) (mod_self k)) in
          let small : k - 1 < k = omega arith in
          ap (λ n. (n + (k - 1)) % k) zero_there ∙ ap (λ n. n % k) (zero-add (k - 1)) ∙ mod-eq_of_lt small ∙ (omega arith)
      | inr inner ↦
          let next : x + 1 < k = omega arith in
          let sum : (x + 1) + (k - 1) ≡ x + k = omega arith in
          ap (λ n. (n + (k - 1)) % k) (mod-eq_of_lt next) ∙ ap (λ n. n % k) sum ∙ add-mod_right x k ∙ mod-eq_of_lt below
    ]

back_and_there : (k x : ℕ) → x < k → ((x + (k - 1)) % k + 1) % k ≡ x
back_and_there k zero below =
    let some : k - 1 < k = omega arith in
    let whole : (k - 1) + 1 ≡ k = omega arith in
    ap (λ n. (n % k + 1) % k) (zero-add (k - 1)) ∙ ap (λ n. (n + 1) % k) (mod-eq_of_lt some) ∙ ap (λ n. n % k) whole ∙ mod_self k
back_and_there k (suc x) below =
    let sum : suc x + (k - 1) ≡ x + k = omega arith in
    let small : x < k = omega arith in
    let next : x + 1 ≡ suc x = omega arith in
    ap (λ n. (n % k + 1) % k) sum ∙ ap (λ n. (n + 1) % k) (add-mod_right x k ∙ mod-eq_of_lt small) ∙ ap (λ n. n % k) next ∙ mod-eq_of_lt below

pub plus-minus : (s : Shape) → IsAccepted s → (t d u : ℕ) → t < tiles_of s → d < dims_of s → IsNeighbour s t d Plus u → IsNeighbour s u d Minus t
plus-minus s h t d u below low n = record {
  tile = below;
  moved = sym (ap (one_hop Minus (radix_of s d)) n.moved ∙ there_and_back (radix_of s d) (digit_of s t d) (digit_below s h t d low));
  kept = λ e inside other. sym (n.kept e inside other);
}

pub minus-plus : (s : Shape) → IsAccepted s → (t d u : ℕ) → t < tiles_of s → d < dims_of s → IsNeighbour s t d Minus u → IsNeighbour s u d Plus t
minus-plus s h t d u below low n = record {
  tile = below;
  moved = sym (ap (one_hop Plus (radix_of s d)) n.moved ∙ back_and_there (radix_of s d) (digit_of s t d) (digit_below s h t d low));
  kept = λ e inside other. sym (n.kept e inside other);
}

pub one_neighbour : (s : Shape) → IsAccepted s → (t d u v : ℕ) (dir : Dir) → IsNeighbour s t d dir u → IsNeighbour s t d dir v → u ≡ v
one_neighbour s h t d u v dir n m =
    same_tile s h u v n.tile m.tile (λ e low. elim (cases_eq e d) [
      | inl same ↦ (rw same (n.moved ∙ sym m.moved))
      | inr other ↦ n.kept e low other ∙ sym (m.kept e low other)
    ])

pub tile_by_digits : (s : Shape) → IsAccepted s → (t u : ℕ) (ds : List ℕ) → t < tiles_of s → u < tiles_of s → AreDigits s t ds → AreDigits s u ds → t ≡ u
tile_by_digits s h t u ds below below' mine yours = same_tile s h t u below below' (λ d low. sym (mine.each d low) ∙ yours.each d low)

pub digits_range : (s : Shape) → IsAccepted s → (t : ℕ) (ds : List ℕ) → AreDigits s t ds → AreInRange s ds
digits_range s h t ds are = record {
  count = are.count;
  below = λ d low. (rw (are.each d low) (digit_below s h t d low));
}

pub one_address : (s : Shape) → (a b : ℕ) → home_of s a ≡ home_of s b → a ≡ b
one_address s a b same =
    let n : ℕ = tiles_of s in
    let word : a / n ≡ b / n = ap (λ (p : ℕ × ℕ). p.1) same in
    let bank : a % n ≡ b % n = ap (λ (p : ℕ × ℕ). p.0) same in
    sym (div-add-mod' a n) ∙ ap (λ w. w * n + a % n) word ∙ ap (λ k. b / n * n + k) bank ∙ div-add-mod' b n

pub each_home : (s : Shape) → (bank word : ℕ) → bank < tiles_of s → (a : ℕ) × (home_of s a ≡ (bank, word))
each_home s bank word below =
    let n : ℕ = tiles_of s in
    let place : home_of s (word * n + bank) ≡ (bank, word) = (rw (mod-mul-add word n bank below, div-mul-add word n bank below) refl) in
    (word * n + bank, place)
