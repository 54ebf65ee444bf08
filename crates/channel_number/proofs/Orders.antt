-- The order of the channels: each has a place of its own.
use Rattle.std.proofs.Common.{◌≡◌, ℕ, ◌+◌, ◌*◌, ◌/◌, ◌%◌, ◌<◌, ◌≤◌, Bool, true, false, refl, sym, ◌∙◌, ap, subst, arith}
use Rattle.std.proofs.lemmas.Nat.{mul-add-lt, div-mul-add, mod-mul-add}
use Rattle.std.proofs.Math.Nat.{mul_comm}
use Rattle.torus.specs.Shape.{Shape, dims_of, tiles_of}
use Rattle.torus.specs.declared.shape.Class.{Class}
use Rattle.torus.specs.declared.shape.Class.TheVariants.{Request, Reply}
use Rattle.torus.specs.declared.shape.Dir.{Dir}
use Rattle.torus.specs.declared.shape.Dir.TheVariants.{Plus, Minus}
use Rattle.dateline_route.specs.declared.channel.Channel.{Channel}
use Rattle.dateline_route.specs.declared.channel.Kind.{Kind}
use Rattle.dateline_route.specs.declared.channel.Kind.TheVariants.{Injection, Hop, Ejection}
use Rattle.dateline_route.specs.Walk.{IsChannel, IsInside}
use Rattle.dateline_route.proofs.Walks.{same_channel}
use Rattle.channel_number.specs.Order.{dir_place, class_place, bit_place, place_in_tile, channels_at_tile, channel_count, channel_index}

pub dir_small : (dir : Dir) → dir_place dir ≤ 1
dir_small Plus = omega arith
dir_small Minus = omega arith

pub class_small : (class : Class) → class_place class ≤ 1
class_small Request = omega arith
class_small Reply = omega arith

pub bit_small : (bit : Bool) → bit_place bit ≤ 1
bit_small false = omega arith
bit_small true = omega arith

pub place_below : (n : ℕ) (class : Class) (s : Shape) (kind : Kind) → n ≡ dims_of s → IsInside s kind → place_in_tile n class kind < 8 * n + 4
place_below n class s (Hop d dir bit) e low = omega (arith, dir_small dir, class_small class, bit_small bit)
place_below n class s Injection e low = omega (arith, class_small class)
place_below n class s Ejection e low = omega (arith, class_small class)

pub index_below : (s : Shape) (x : Channel) → IsChannel s x → channel_index s x < channel_count s
index_below s x h =
    let place : place_in_tile (dims_of s) x.class x.kind < channels_at_tile s = place_below (dims_of s) x.class s x.kind refl h.kind in
    let turned = mul-add-lt x.tile (channels_at_tile s) (place_in_tile (dims_of s) x.class x.kind) (tiles_of s) h.tile place in
    omega (arith, turned, mul_comm (tiles_of s) (channels_at_tile s))

dir_one : (x y : Dir) → dir_place x ≡ dir_place y → x ≡ y
dir_one Plus Plus e = refl
dir_one Plus Minus e = absurd (omega arith)
dir_one Minus Plus e = absurd (omega arith)
dir_one Minus Minus e = refl

class_one : (x y : Class) → class_place x ≡ class_place y → x ≡ y
class_one Request Request e = refl
class_one Request Reply e = absurd (omega arith)
class_one Reply Request e = absurd (omega arith)
class_one Reply Reply e = refl

bit_one : (x y : Bool) → bit_place x ≡ bit_place y → x ≡ y
bit_one false false e = refl
bit_one false true e = absurd (omega arith)
bit_one true false e = absurd (omega arith)
bit_one true true e = refl

-- a number and three binary digits below it
pub record SameDigits (d a b c e x y z : ℕ) : Type 0 where
  pub first : d ≡ e
  pub second : a ≡ x
  pub third : b ≡ y
  pub last : c ≡ z

same_digits : (d a b c e x y z : ℕ) → a ≤ 1 → b ≤ 1 → c ≤ 1 → x ≤ 1 → y ≤ 1 → z ≤ 1 → 8 * d + 4 * a + 2 * b + c ≡ 8 * e + 4 * x + 2 * y + z
    → SameDigits d a b c e x y z
same_digits d a b c e x y z ha hb hc hx hy hz same = record { first = omega arith; second = omega arith; third = omega arith; last = omega arith }

same_hop : (d e : ℕ) (dir way : Dir) (bit on : Bool) → d ≡ e → dir ≡ way → bit ≡ on → Hop d dir bit ≡ Hop e way on
same_hop d e dir way bit on d_is dir_is bit_is = ap (λ m. Hop m dir bit) d_is ∙ ap (λ w. Hop e w bit) dir_is ∙ ap (Hop e way) bit_is

-- two channels of one tile that have one place are one
one_place : (n : ℕ) (s : Shape) (c v : Class) (k l : Kind) → n ≡ dims_of s → IsInside s k → IsInside s l → place_in_tile n c k ≡ place_in_tile n v l → (c ≡ v) × (k ≡ l)
one_place n s c v (Hop d dir bit) (Hop e way on) at inside within same =
    let parts : SameDigits d (dir_place dir) (class_place c) (bit_place bit) e (dir_place way) (class_place v) (bit_place on) =
    same_digits d (dir_place dir) (class_place c) (bit_place bit) e (dir_place way) (class_place v) (bit_place on)
    (dir_small dir) (class_small c) (bit_small bit) (dir_small way) (class_small v) (bit_small on) same in
    (class_one c v parts.third, same_hop d e dir way bit on parts.first (dir_one dir way parts.second) (bit_one bit on parts.last))
one_place n s c v (Hop d dir bit) Injection at inside within same = absurd (omega (arith, dir_small dir, class_small c, bit_small bit))
one_place n s c v (Hop d dir bit) Ejection at inside within same = absurd (omega (arith, dir_small dir, class_small c, bit_small bit))
one_place n s c v Injection (Hop e way on) at inside within same = absurd (omega (arith, dir_small way, class_small v, bit_small on))
one_place n s c v Injection Injection at inside within same = (class_one c v (omega arith), refl)
one_place n s c v Injection Ejection at inside within same = absurd (omega (arith, class_small c))
one_place n s c v Ejection (Hop e way on) at inside within same = absurd (omega (arith, dir_small way, class_small v, bit_small on))
one_place n s c v Ejection Injection at inside within same = absurd (omega (arith, class_small v))
one_place n s c v Ejection Ejection at inside within same = (class_one c v (omega arith), refl)

-- two channels that have one index are one
pub one_index : (s : Shape) (x y : Channel) → IsChannel s x → IsChannel s y → channel_index s x ≡ channel_index s y → x ≡ y
one_index s x y h g same =
    let n : ℕ = dims_of s in
    let per : ℕ = channels_at_tile s in
    let p : ℕ = place_in_tile n x.class x.kind in
    let q : ℕ = place_in_tile n y.class y.kind in
    let low : p < per = place_below n x.class s x.kind refl h.kind in
    let low' : q < per = place_below n y.class s y.kind refl g.kind in
    let tile : x.tile ≡ y.tile = sym (div-mul-add x.tile per p low) ∙ ap (λ m. m / per) same ∙ div-mul-add y.tile per q low' in
    let place : p ≡ q = sym (mod-mul-add x.tile per p low) ∙ ap (λ m. m % per) same ∙ mod-mul-add y.tile per q low' in
    let parts : (x.class ≡ y.class) × (x.kind ≡ y.kind) = one_place n s x.class y.class x.kind y.kind refl h.kind g.kind place in
    same_channel x y tile parts.0 parts.1

pub hop_inside : (s : Shape) (kind : Kind) (d : ℕ) (dir : Dir) (bit : Bool) → kind ≡ Hop d dir bit → IsInside s kind → d < dims_of s
hop_inside s kind d dir bit e inside = let P : Kind → Type 0 = λ k. IsInside s k in subst P e inside

-- the place of a channel, from those of its tile and of its class and kind
pub index_from : (s : Shape) (x : Channel) (per place : ℕ) → IsChannel s x → per ≡ channels_at_tile s → place ≡ place_in_tile (dims_of s) x.class x.kind
    → x.tile * per + place < channel_count s
index_from s x per place h per_is place_is =
    let P : ℕ → Type 0 = λ m. m < channel_count s in
    subst P (ap (λ m. x.tile * channels_at_tile s + m) (sym place_is) ∙ ap (λ m. x.tile * m + place) (sym per_is)) (index_below s x h)
