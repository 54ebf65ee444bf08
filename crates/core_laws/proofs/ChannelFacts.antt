-- The channels at the ends of routes.
use Rattle.std.proofs.Common.{◌≡◌, ◌≢◌, ⊎_elim, ℕ, ◌+◌, ◌*◌, ◌/◌, ◌%◌, ◌<◌, ◌==◌, Bool, true, false, refl, sym, ◌∙◌, ap, ap₂, arith}
use Rattle.std.specs.Prelude.{nat_lt, ◌&&◌}
use Rattle.std.proofs.lemmas.Bool.{lt-ltb, le-ltb, ltb-true, ltb-false, cases_eq}
use Rattle.std.proofs.Math.Nat.{div-add-mod, mul_comm, div-lt_iff_lt-mul}
use Rattle.std.proofs.lemmas.Nat.{div-mul-add, mod-mul-add, mul-add-lt}
use Rattle.torus.specs.Shape.{Shape, tiles_of, dims_of}
use Rattle.torus.specs.declared.shape.Class.{Class}
use Rattle.torus.specs.declared.shape.Class.TheVariants.{Request, Reply}
use Rattle.dateline_route.specs.declared.channel.Channel.{Channel}
use Rattle.dateline_route.specs.declared.channel.Kind.{Kind}
use Rattle.dateline_route.specs.declared.channel.Kind.TheVariants.{Injection, Hop, Ejection}
use Rattle.channel_number.specs.Order.{channel_count, channels_at_tile, class_place, channel_at, class_of_place, kind_of_place, class_at, dir_at}
use Rattle.packet.specs.Flits.{is_tail}
use Rattle.core_laws.specs.Heads.{carries_route}
use Rattle.channel_number.specs.Ports.{injection_channel, ejection_channel, is_injection, is_ejection}
use Rattle.tile.specs.Tile.{Design}
use Rattle.core_laws.proofs.Projection.{net_of}
use Rattle.core_laws.specs.TorusNet.{same_class as is_same_class, joins_in}
use Rattle.channel_number.proofs.Decoding.{kind_by, class_by}

injection_place : (n : ℕ) (class : Class) → (class_of_place n (8 * n + class_place class) ≡ class) × (kind_of_place n (8 * n + class_place class) ≡ Injection)
injection_place n Request =
    let low = le-ltb (8 * n + 0) (8 * n) (omega arith) in
    let high = lt-ltb (8 * n + 0) (8 * n + 2) (omega arith) in
    let even : (8 * n + 0) % 2 ≡ 0 = omega arith in
    (rw (low, even) refl, rw (low, high) refl)
injection_place n Reply =
    let low = le-ltb (8 * n + 1) (8 * n) (omega arith) in
    let high = lt-ltb (8 * n + 1) (8 * n + 2) (omega arith) in
    let odd : (8 * n + 1) % 2 ≡ 1 = omega arith in
    (rw (low, odd) refl, rw (low, high) refl)

ejection_place : (n : ℕ) (class : Class)
    → (class_of_place n (8 * n + 2 + class_place class) ≡ class) × (kind_of_place n (8 * n + 2 + class_place class) ≡ Ejection)
ejection_place n Request =
    let low = le-ltb (8 * n + 2 + 0) (8 * n) (omega arith) in
    let high = le-ltb (8 * n + 2 + 0) (8 * n + 2) (omega arith) in
    let even : (8 * n + 2 + 0) % 2 ≡ 0 = omega arith in
    (rw (low, even) refl, rw (low, high) refl)
ejection_place n Reply =
    let low = le-ltb (8 * n + 2 + 1) (8 * n) (omega arith) in
    let high = le-ltb (8 * n + 2 + 1) (8 * n + 2) (omega arith) in
    let odd : (8 * n + 2 + 1) % 2 ≡ 1 = omega arith in
    (rw (low, odd) refl, rw (low, high) refl)

same_channel : (t u : ℕ) (c e : Class) (k l : Kind) → t ≡ u → c ≡ e → k ≡ l
    → ◌≡◌ {A = Channel} (record { tile = t; class = c; kind = k }) (record { tile = u; class = e; kind = l })
same_channel t u c e k l ht hc hk =
    ap (λ x. record { tile = x; class = c; kind = k }) ht
    ∙ (ap (λ x. record { tile = u; class = x; kind = k }) hc ∙ ap (λ x. record { tile = u; class = e; kind = x }) hk)

-- the channel of a tile's place
at_place : (s : Shape) (t m : ℕ) (class : Class) (kind : Kind) → m < channels_at_tile s
    → (class_of_place (dims_of s) m ≡ class) × (kind_of_place (dims_of s) m ≡ kind)
    → channel_at s (t * channels_at_tile s + m) ≡ record { tile = t; class = class; kind = kind }
at_place s t m class kind low h =
    let r = mod-mul-add t (channels_at_tile s) m low in
    same_channel _ _ _ _ _ _ (div-mul-add t (channels_at_tile s) m low) (ap (class_of_place (dims_of s)) r ∙ h.0) (ap (kind_of_place (dims_of s)) r ∙ h.1)

pub injection_is : (s : Shape) (t : ℕ) (class : Class) → channel_at s (injection_channel s t class) ≡ record { tile = t; class = class; kind = Injection }
injection_is s t Request = at_place s t (8 * dims_of s + 0) Request Injection (omega arith) (injection_place (dims_of s) Request)
injection_is s t Reply = at_place s t (8 * dims_of s + 1) Reply Injection (omega arith) (injection_place (dims_of s) Reply)

pub ejection_is : (s : Shape) (t : ℕ) (class : Class) → channel_at s (ejection_channel s t class) ≡ record { tile = t; class = class; kind = Ejection }
ejection_is s t Request = at_place s t (8 * dims_of s + 2 + 0) Request Ejection (omega arith) (ejection_place (dims_of s) Request)
ejection_is s t Reply = at_place s t (8 * dims_of s + 2 + 1) Reply Ejection (omega arith) (ejection_place (dims_of s) Reply)

pub injects_at : (d : Design) (p : ℕ) (class : Class) → (net_of d).injects (injection_channel d.shape p class) ≡ true
unfolding net_of
injects_at d p class = ap (λ (x : Channel). is_injection x.kind) (injection_is d.shape p class)

pub ejects_at : (d : Design) (p : ℕ) (class : Class) → (net_of d).ejects (ejection_channel d.shape p class) ≡ true
unfolding net_of
ejects_at d p class = ap (λ (x : Channel). is_ejection x.kind) (ejection_is d.shape p class)

-- an injection by its number
place_injected : (n j : ℕ) (b c : Bool) → nat_lt j (8 * n) ≡ b → nat_lt j (8 * n + 2) ≡ c → kind_of_place n j ≡ Injection
    → j ≡ 8 * n + class_place (class_of_place n j)
place_injected n j true c low high h =
    let e : kind_of_place n j ≡ Hop (j / 8) (dir_at (j / 4 % 2)) (j % 2 == 1) = ap (λ (x : Bool). kind_by x (nat_lt j (8 * n + 2)) j) low in
    let no : ◌≡◌ {A = Kind} (Hop (j / 8) (dir_at (j / 4 % 2)) (j % 2 == 1)) Injection = sym e ∙ h in cc
place_injected n j false false low high h =
    let e : kind_of_place n j ≡ Ejection = ap₂ (λ (x y : Bool). kind_by x y j) low high in
    let no : ◌≡◌ {A = Kind} Ejection Injection = sym e ∙ h in cc
place_injected n j false true low high h =
    let above = ltb-false j (8 * n) low in
    let below = ltb-true j (8 * n + 2) high in
    ⊎_elim
    (λ (e : j ≡ 8 * n).
    let even : j % 2 ≡ 0 = omega arith in
    let class : class_of_place n j ≡ Request = ap (λ (x : Bool). class_by x j) low ∙ ap class_at even in
    let place : class_place (class_of_place n j) ≡ 0 = ap class_place class in omega (arith, e, place))
    (λ (other : j ≢ 8 * n).
    let e : j ≡ 8 * n + 1 = omega (arith, above, below, other) in
    let odd : j % 2 ≡ 1 = omega arith in
    let class : class_of_place n j ≡ Reply = ap (λ (x : Bool). class_by x j) low ∙ ap class_at odd in
    let place : class_place (class_of_place n j) ≡ 1 = ap class_place class in omega (arith, e, place))
    (cases_eq j (8 * n))

pub injection_from : (s : Shape) (x : ℕ) → (channel_at s x).kind ≡ Injection → x ≡ injection_channel s (channel_at s x).tile (channel_at s x).class
injection_from s x h =
    let n : ℕ = dims_of s in
    let c : ℕ = channels_at_tile s in
    let j : ℕ = x % c in
    let p = place_injected n j (nat_lt j (8 * n)) (nat_lt j (8 * n + 2)) refl refl h in
    let parts = div-add-mod x c in
    let turned = mul_comm c (x / c) in
    omega (arith, p, parts, turned)

pub and_parts : (a b : Bool) → a && b ≡ true → (a ≡ true) × (b ≡ true)
and_parts true b h = (refl, h)
and_parts false b h = absurd (cc)

pub injects_only : (k : Kind) → is_injection k ≡ true → k ≡ Injection
injects_only Injection h = refl
injects_only (Hop e dir bit) h = cc
injects_only Ejection h = cc

class_only : (c e : Class) → is_same_class c e ≡ true → c ≡ e
class_only Request Request h = refl
class_only Request Reply h = cc
class_only Reply Request h = cc
class_only Reply Reply h = refl

joins_from : (s : Shape) (i p : ℕ) (class : Class) → joins_in s i (ejection_channel s p class) ≡ true
    → (b : ℕ) × (b < tiles_of s) × (i ≡ injection_channel s b class)
joins_from s i p class h =
    let x : Channel = channel_at s i in
    let c : ℕ = channels_at_tile s in
    let ends : Bool = (nat_lt i (channel_count s) && is_injection x.kind)
    && (nat_lt (ejection_channel s p class) (channel_count s) && is_ejection (channel_at s (ejection_channel s p class)).kind) in
    let a = and_parts ends (is_same_class x.class (channel_at s (ejection_channel s p class)).class) h in
    let b = and_parts (nat_lt i (channel_count s) && is_injection x.kind) _ a.0 in
    let f = and_parts (nat_lt i (channel_count s)) (is_injection x.kind) b.0 in
    let k = injects_only x.kind f.1 in
    let e = class_only x.class (channel_at s (ejection_channel s p class)).class a.1 ∙ ap (λ (z : Channel). z.class) (ejection_is s p class) in
    let within = ltb-true i (channel_count s) f.0 in
    (x.tile, (div-lt_iff_lt-mul {k = c} {x = i} {y = tiles_of s} (omega arith)).1 within, injection_from s i k ∙ ap (injection_channel s x.tile) e)

pub injection_in : (s : Shape) (t : ℕ) (class : Class) → t < tiles_of s → injection_channel s t class < channel_count s
injection_in s t Request h = let l = mul-add-lt t (channels_at_tile s) (8 * dims_of s + 0) (tiles_of s) h (omega arith) in
    let e = mul_comm (channels_at_tile s) (tiles_of s) in omega (arith, l, e)
injection_in s t Reply h = let l = mul-add-lt t (channels_at_tile s) (8 * dims_of s + 1) (tiles_of s) h (omega arith) in
    let e = mul_comm (channels_at_tile s) (tiles_of s) in omega (arith, l, e)

pub ejection_in : (s : Shape) (t : ℕ) (class : Class) → t < tiles_of s → ejection_channel s t class < channel_count s
ejection_in s t Request h = let l = mul-add-lt t (channels_at_tile s) (8 * dims_of s + 2 + 0) (tiles_of s) h (omega arith) in
    let e = mul_comm (channels_at_tile s) (tiles_of s) in omega (arith, l, e)
ejection_in s t Reply h = let l = mul-add-lt t (channels_at_tile s) (8 * dims_of s + 2 + 1) (tiles_of s) h (omega arith) in
    let e = mul_comm (channels_at_tile s) (tiles_of s) in omega (arith, l, e)

joins_at : (s : Shape) (p b : ℕ) (class : Class) → p < tiles_of s → b < tiles_of s
    → joins_in s (injection_channel s p class) (ejection_channel s b class) ≡ true
joins_at s p b class lp lb =
    let I : Channel → Bool = λ x. is_injection x.kind in
    let E : Channel → Bool = λ x. is_ejection x.kind in
    ap₂ (λ (x y : Bool). (x && is_injection (channel_at s (injection_channel s p class)).kind)
    && (y && is_ejection (channel_at s (ejection_channel s b class)).kind) && is_same_class (channel_at s (injection_channel s p class)).class
    (channel_at s (ejection_channel s b class)).class)
    (lt-ltb (injection_channel s p class) (channel_count s) (injection_in s p class lp))
    (lt-ltb (ejection_channel s b class) (channel_count s) (ejection_in s b class lb))
    ∙ (ap₂ (λ (x y : Channel). (true && is_injection x.kind) && (true && is_ejection y.kind) && is_same_class x.class y.class) (injection_is s p class)
    (ejection_is s b class) ∙ same_class class)
  where
    same_class : (c : Class) → is_same_class c c ≡ true
    same_class Request = refl
    same_class Reply = refl

-- packets of a class go from each tile to each
pub joined : (d : Design) (p b : ℕ) (class : Class) → p < tiles_of d.shape → b < tiles_of d.shape
    → (net_of d).joins (injection_channel d.shape p class) (ejection_channel d.shape b class) ≡ true
unfolding net_of
joined d p b class lp lb = joins_at d.shape p b class lp lb

-- what is sent to an ejection comes from an injection of its class
pub joined_from : (d : Design) (i p : ℕ) (class : Class) → (net_of d).joins i (ejection_channel d.shape p class) ≡ true
    → (b : ℕ) × (b < tiles_of d.shape) × (i ≡ injection_channel d.shape b class)
unfolding net_of
joined_from d i p class h = joins_from d.shape i p class h

pub ejection_tile : (s : Shape) (t u : ℕ) (c e : Class) → ejection_channel s t c ≡ ejection_channel s u e → t ≡ u
ejection_tile s t u c e h = ap (λ (x : Channel). x.tile) (sym (ejection_is s t c) ∙ (ap (channel_at s) h ∙ ejection_is s u e))

pub is_tail_of : (d : Design) (flit : ℕ) → (net_of d).is_tail flit ≡ is_tail flit
unfolding net_of
is_tail_of d flit = refl

pub is_head_of : (d : Design) (flit : ℕ) → (net_of d).is_head flit ≡ carries_route flit
unfolding net_of
is_head_of d flit = refl

pub channels_of : (d : Design) → (net_of d).channels ≡ channel_count d.shape
unfolding net_of
channels_of d = refl
