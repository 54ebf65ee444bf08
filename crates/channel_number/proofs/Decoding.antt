-- Each channel is that of its place.
use Rattle.std.proofs.Common.{◌≡◌, ℕ, ◌+◌, ◌*◌, ◌/◌, ◌%◌, ◌<◌, ◌≤◌, zero, suc, Bool, true, false, refl, ◌∙◌, ap, arith, ltb}
use Rattle.std.specs.Prelude.{◌==◌, if◌then◌else◌}
use Rattle.std.proofs.lemmas.Nat.{mod_below, div_below, div-add-mod'}
use Rattle.std.proofs.lemmas.Bool.{ltb-true, ltb-false}
use Rattle.torus.specs.Shape.{Shape, dims_of, tiles_of}
use Rattle.torus.specs.declared.shape.Class.{Class}
use Rattle.dateline_route.specs.declared.channel.Channel.{Channel}
use Rattle.dateline_route.specs.declared.channel.Kind.{Kind}
use Rattle.dateline_route.specs.declared.channel.Kind.TheVariants.{Injection, Hop, Ejection}
use Rattle.dateline_route.specs.Walk.{IsChannel, IsInside}
use Rattle.channel_number.specs.Order.{dir_place, class_place, bit_place, place_in_tile, channels_at_tile, channel_count, channel_index, dir_at, class_at}
use Rattle.channel_number.specs.Order.{channel_at}
use Rattle.channel_number.proofs.Orders.{index_below, one_index}

-- the class and kind of a place, where it is known whether it is among the hops, and whether before the ejections
abbrev pub class_by : Bool → ℕ → Class
class_by hops p = if hops then class_at (p / 2 % 2) else class_at (p % 2)

abbrev pub kind_by : Bool → Bool → ℕ → Kind
kind_by hops injects p = if hops then Hop (p / 8) (dir_at (p / 4 % 2)) (p % 2 == 1) else if injects then Injection else Ejection

pub dir_is : (m : ℕ) → m < 2 → dir_place (dir_at m) ≡ m
dir_is zero h = refl
dir_is (suc m) h = omega arith

pub class_is : (m : ℕ) → m < 2 → class_place (class_at m) ≡ m
class_is zero h = refl
class_is (suc m) h = omega arith

pub bit_is : (m : ℕ) → m < 2 → bit_place (m == 1) ≡ m
bit_is zero h = refl
bit_is (suc zero) h = refl
bit_is (suc (suc m)) h = absurd (omega arith)

-- the kind and class of a place are inside, and have it
pub record IsAt (s : Shape) (p : ℕ) (class : Class) (kind : Kind) : Type 0 where
  pub inside : IsInside s kind
  pub place : place_in_tile (dims_of s) class kind ≡ p

is_at : (s : Shape) (p : ℕ) (hops injects : Bool) → p < channels_at_tile s → (hops ≡ true → p < 8 * dims_of s) → (hops ≡ false → 8 * dims_of s ≤ p)
    → (injects ≡ true → p < 8 * dims_of s + 2) → (injects ≡ false → 8 * dims_of s + 2 ≤ p) → IsAt s p (class_by hops p) (kind_by hops injects p)
is_at s p true injects low a b c d =
    let under = a refl in
    record {
      inside = omega arith;
      place = omega (arith, dir_is (p / 4 % 2) (omega arith), class_is (p / 2 % 2) (omega arith), bit_is (p % 2) (omega arith));
    }
is_at s p false true low a b c d = let over = b refl in let under = c refl in record { inside = tt; place = omega (arith, class_is (p % 2) (omega arith)) }
is_at s p false false low a b c d = let over = d refl in record { inside = tt; place = omega (arith, class_is (p % 2) (omega arith)) }

pub decoded : (s : Shape) (i : ℕ) → i < channel_count s → IsChannel s (channel_at s i) × (channel_index s (channel_at s i) ≡ i)
decoded s i low =
    let per : ℕ = channels_at_tile s in
    let some : 0 < per = omega arith in
    let p : ℕ = i % per in
    let h : ℕ = 8 * dims_of s in
    let at : IsAt s p (class_by (ltb p h) p) (kind_by (ltb p h) (ltb p (h + 2)) p) =
    is_at s p (ltb p h) (ltb p (h + 2)) (mod_below i per some) (ltb-true p h) (ltb-false p h) (ltb-true p (h + 2)) (ltb-false p (h + 2)) in
    (record { tile = div_below i per (tiles_of s) some low; kind = at.inside }, ap (λ m. i / per * per + m) at.place ∙ div-add-mod' i per)

pub encoded : (s : Shape) (x : Channel) → IsChannel s x → channel_at s (channel_index s x) ≡ x
encoded s x h =
    let d = decoded s (channel_index s x) (index_below s x h) in
    one_index s (channel_at s (channel_index s x)) x d.0 h d.1

-- each index is that of a channel
pub each_index : (s : Shape) (i : ℕ) → i < channel_count s → (x : Channel) × IsChannel s x × (channel_index s x ≡ i)
each_index s i low = let d = decoded s i low in (channel_at s i, d.0, d.1)
