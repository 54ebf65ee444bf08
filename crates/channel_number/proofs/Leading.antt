-- The channels at the inputs and outputs of routers, by where they lead.
use Rattle.std.proofs.Common.{◌≡◌, ℕ, ◌+◌, ◌*◌, ◌/◌, ◌%◌, ◌<◌, Bool, true, false, cond, refl, sym, ◌∙◌, ap, subst, arith, ltb, lt-ltb}
use Rattle.std.specs.Prelude.{◌==◌}
use Rattle.std.proofs.lemmas.Nat.{mod-mul-add}
use Rattle.std.proofs.lemmas.Bool.{le-ltb}
use Rattle.torus.specs.Shape.{Shape, IsAccepted, dims_of, tiles_of, radix_of, digit_of, one_hop}
use Rattle.torus.specs.declared.shape.Class.{Class}
use Rattle.torus.proofs.Hops.{one_neighbour}
use Rattle.dateline_route.specs.declared.channel.Channel.{Channel}
use Rattle.dateline_route.specs.declared.channel.Kind.{Kind}
use Rattle.dateline_route.specs.declared.channel.Kind.TheVariants.{Injection, Hop, Ejection}
use Rattle.dateline_route.specs.declared.channel.Input.TheVariants.{Inject, Hop as From}
use Rattle.dateline_route.specs.declared.channel.Output.{Output}
use Rattle.dateline_route.specs.declared.channel.Output.TheVariants.{Eject, Hop as To}
use Rattle.dateline_route.specs.Route.{with_digit}
use Rattle.dateline_route.specs.Walk.{IsChannel, IsInside, LeadsTo, input_of, kind_of}
use Rattle.dateline_route.proofs.Neighbours.{hop_is}
use Rattle.channel_number.specs.Order.{dir_at, class_place, place_in_tile, channels_at_tile, channel_index, channel_at}
use Rattle.channel_number.specs.Ports.{port_count, tile_after, is_ejection, input_channel, output_channel, output_number, input_numbered, input_router}
use Rattle.channel_number.specs.Ports.{input_port, IsInput, HasInput}
use Rattle.channel_number.proofs.Orders.{dir_small, class_small, bit_small, index_below, place_below}
use Rattle.channel_number.proofs.Decoding.{kind_by, decoded, encoded}
use Rattle.channel_number.proofs.Ports.{is_input, has_input}

-- a channel leads to one tile's router
pub leads_to_after : (s : Shape) → IsAccepted s → (t : ℕ) (kind : Kind) (u : ℕ) → t < tiles_of s → IsInside s kind → LeadsTo s t kind u
    → u ≡ tile_after s t kind
leads_to_after s h t Injection u low inside l = l
leads_to_after s h t (Hop d dir bit) u low inside l =
    one_neighbour s h t d u (with_digit s t d (one_hop dir (radix_of s d) (digit_of s t d))) dir l (hop_is s h t d dir low inside)
leads_to_after s h t Ejection u low inside l = absurd l

-- and leads there, if it is no ejection
pub after_leads : (s : Shape) → IsAccepted s → (t : ℕ) (kind : Kind) → t < tiles_of s → IsInside s kind → is_ejection kind ≡ false
    → LeadsTo s t kind (tile_after s t kind)
after_leads s h t Injection low inside e = refl
after_leads s h t (Hop d dir bit) low inside e = hop_is s h t d dir low inside
after_leads s h t Ejection low inside e = cc

no_ejection : (s : Shape) (t : ℕ) (kind : Kind) (u : ℕ) → LeadsTo s t kind u → is_ejection kind ≡ false
no_ejection s t Injection u l = refl
no_ejection s t (Hop d dir bit) u l = refl
no_ejection s t Ejection u l = absurd l

-- where a packet comes from, by the place of its channel
pub input_by : (hops injects : Bool) (i : ℕ) → input_of (kind_by hops injects i) ≡ cond hops (From (i / 8) (dir_at (i / 4 % 2)) (i % 2 == 1)) Inject
input_by true injects i = refl
input_by false true i = refl
input_by false false i = refl

-- the channel at an input leads to its router, and comes in by that input
pub arrives : (s : Shape) → IsAccepted s → (t i : ℕ) → t < tiles_of s → i < port_count (dims_of s)
    → LeadsTo s (channel_at s (input_channel s t i)).tile (channel_at s (input_channel s t i)).kind t
    × (input_of (channel_at s (input_channel s t i)).kind ≡ input_numbered (dims_of s) i)
arrives s h t i low small =
    let x : ℕ = input_channel s t i in
    let c : Channel = channel_at s x in
    let at : IsInput s t i = is_input s h t i low small in
    let is : IsChannel s c = (decoded s x at.below).0 in (
      subst (LeadsTo s c.tile c.kind) at.router (after_leads s h c.tile c.kind is.tile is.kind at.leads),
      ap (λ p. input_of (kind_by (ltb p (8 * dims_of s)) (ltb p (8 * dims_of s + 2)) p)) at.port
          ∙ input_by (ltb i (8 * dims_of s)) (ltb i (8 * dims_of s + 2)) i,
    )

-- a channel that leads to a router is at the input of its place
pub only_arrives : (s : Shape) → IsAccepted s → (x : Channel) (t : ℕ) → IsChannel s x → LeadsTo s x.tile x.kind t
    → (place_in_tile (dims_of s) x.class x.kind < port_count (dims_of s)) × (input_channel s t (place_in_tile (dims_of s) x.class x.kind) ≡ channel_index s x)
only_arrives s h x t is leads =
    let X : ℕ = channel_index s x in
    let p : ℕ = place_in_tile (dims_of s) x.class x.kind in
    let same : channel_at s X ≡ x = encoded s x is in
    let at : HasInput s X = has_input s h X (index_below s x is) (ap (λ (c : Channel). is_ejection c.kind) same ∙ no_ejection s x.tile x.kind t leads) in
    let router : input_router s X ≡ t =
    ap (λ (c : Channel). tile_after s c.tile c.kind) same ∙ sym (leads_to_after s h x.tile x.kind t is.tile is.kind leads) in
    let port : input_port s X ≡ p = mod-mul-add x.tile (channels_at_tile s) p (place_below (dims_of s) x.class s x.kind refl is.kind) in (
      subst (λ m. m < port_count (dims_of s)) port at.port,
      sym (ap (input_channel s t) port) ∙ (sym (ap (λ u. input_channel s u (input_port s X)) router) ∙ at.same),
    )

-- the channel at an output is that of its kind
pub output_is : (s : Shape) (t : ℕ) (class : Class) (out : Output) → IsInside s (kind_of out)
    → output_channel s t (output_number (dims_of s) class out) ≡ channel_index s (record { tile = t; class = class; kind = kind_of out })
output_is s t class Eject inside =
    let n : ℕ = 8 * dims_of s in
    let o : ℕ = n + class_place class in
    let same : t * channels_at_tile s + (o + 2) ≡ t * channels_at_tile s + (n + 2 + class_place class) = omega arith in
    ap (λ (b : Bool). cond b (t * channels_at_tile s + o) (t * channels_at_tile s + (o + 2))) (le-ltb o n (omega arith)) ∙ same
output_is s t class (To d dir bit) inside =
    let n : ℕ = 8 * dims_of s in
    let o : ℕ = place_in_tile (dims_of s) class (Hop d dir bit) in
    let low : o < n = omega (arith, dir_small dir, class_small class, bit_small bit) in
    ap (λ (b : Bool). cond b (t * channels_at_tile s + o) (t * channels_at_tile s + (o + 2))) (lt-ltb o n low)

-- an output of a router has its number
pub output_within : (s : Shape) (class : Class) (out : Output) → IsInside s (kind_of out) → output_number (dims_of s) class out < port_count (dims_of s)
output_within s class Eject inside = omega (arith, class_small class)
output_within s class (To d dir bit) inside = omega (arith, dir_small dir, class_small class, bit_small bit)
