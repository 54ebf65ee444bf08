-- The flits of packets, and the channels that they have still to leave.
use Rattle.std.proofs.Common.{◌≡◌, ◌≢◌, ℕ, ◌+◌, ◌-◌, ◌*◌, ◌<◌, ◌≤◌, zero, suc, true, List, [], ◌∷◌, length, ap, ◌∙◌, refl, arith, All}
use Rattle.std.proofs.Common.{length-append}
use Rattle.std.proofs.Math.Nat.{mul-le-mul_left, add-mul}
use Rattle.std.proofs.lemmas.List.Sums.{sum_by-cons}
use Rattle.std.proofs.lemmas.List.Elements.{All-head, All-tail}
use Rattle.std.specs.List.{sum_by}
use Rattle.wormhole.specs.Net.{Net, IsNet, IsOn, Parcel, net_flits, flits_of_all}
use Rattle.wormhole.specs.Weight.{beyond}
use Rattle.wormhole.proofs.Beyond.{beyond_here}
use Rattle.fair_rounds.proofs.Trails.{last_or, way}

abbrev pub size : Parcel → ℕ
size k = length (net_flits k)

-- the flits of some packets
pub size_all : (ks : List Parcel) → length (flits_of_all ks) ≡ sum_by size ks
size_all [] = refl
size_all (k ∷ ks) =
    let rest = size_all ks in
    let joined = length-append (net_flits k) (flits_of_all ks) in
    let sum = sum_by-cons size k ks in
    omega (arith, rest, joined, sum)

-- a channel on a route: what lies after it and it itself are on the route
pub on_way : (n : Net) → IsNet n → (x : ℕ) (k : Parcel) → n.joins k.source k.destination ≡ true → IsOn x (way n k) → length (way n k) ≤ 10
    → suc (beyond x (way n k)) ≤ 10
on_way n net x k joined on near =
    let is : beyond x (way n k) ≡ length on.1 = ap (beyond x) on.2
    ∙ beyond_here n.number on.0 on.1 x (λ a b before between after e. net.rises k.source k.destination a b before between after joined (on.2 ∙ e)) in
    let whole = ap length on.2 ∙ length-append on.0 (x ∷ on.1) in
    omega (arith, is, whole, near)

last_small : (c : Parcel) (ks : List Parcel) → size (last_or c ks) ≤ size c + sum_by size ks
last_small c [] = omega arith
last_small c (k ∷ ks) = let rest = last_small k ks in let sum = sum_by-cons size k ks in omega (arith, rest, sum)

module _ (n : Net) (x : ℕ) where
  -- how many channels a flit of a packet has to leave from channel x on
  abbrev pub to_go : Parcel → ℕ
  to_go k = suc (beyond x (way n k))

  abbrev pub hops : Parcel → ℕ
  hops k = size k * to_go k

  -- of the flits of a line, with those owed to it, the ones that are owed are the last
  pub hops_most : (c : Parcel) (ks : List Parcel) (a m o : ℕ) → a + sum_by size ks ≡ m + o → (0 < a → to_go c ≤ 10) → All (λ k. to_go k ≤ 10) ks
      → (ks ≢ [] → o ≤ size (last_or c ks)) → a * to_go c + sum_by hops ks ≤ 10 * m + o * to_go (last_or c ks)
  hops_most c [] zero m o total near all last = omega arith
  hops_most c [] (suc a) m o total near all last =
      let most : m * to_go c ≤ m * 10 = mul-le-mul_left m (near (omega arith)) in
      let whole : suc a ≡ m + o = omega (arith, total) in
      let split : suc a * to_go c ≡ m * to_go c + o * to_go c = ap (λ z. z * to_go c) whole ∙ add-mul m o (to_go c) in
      omega (arith, most, split)
  hops_most c (k ∷ ks) a m o total near all last =
      let sum = sum_by-cons size k ks in
      let sums = sum_by-cons hops k ks in
      let small = last_small k ks in
      let owed : o ≤ size (last_or k ks) = last (λ none. cc) in
      let first : a ≤ m = omega (arith, sum, small, owed, total) in
      let rest : size k * to_go k + sum_by hops ks ≤ 10 * (m - a) + o * to_go (last_or k ks) =
      hops_most k ks (size k) (m - a) o (omega (arith, sum, total, first)) (λ some. All-head (λ k. to_go k ≤ 10) k ks all)
      (All-tail (λ k. to_go k ≤ 10) k ks all) (λ some. owed) in
      let front : a * to_go c ≤ a * 10 = by_count a near in
      omega (arith, sums, rest, front, first)
    where
      by_count : (a : ℕ) → (0 < a → to_go c ≤ 10) → a * to_go c ≤ a * 10
      by_count zero near = omega arith
      by_count (suc a) near = mul-le-mul_left (suc a) (near (omega arith))
