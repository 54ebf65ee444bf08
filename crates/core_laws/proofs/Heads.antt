-- Where a router puts the head flit of a packet that was sent.
use Rattle.std.proofs.Common.{◌≡◌, ℕ, ◌+◌, ◌*◌, ◌/◌, ◌%◌, ◌<◌, List, refl, sym, ◌∙◌, ap, subst, arith, ltb}
use Rattle.std.proofs.lemmas.Nat.{div-mul-add, mod-mul-add}
use Rattle.torus.specs.Shape.{Shape, IsAccepted, dims_of, tiles_of}
use Rattle.torus.specs.declared.shape.Class.{Class}
use Rattle.torus.specs.declared.shape.Class.TheVariants.{Request, Reply}
use Rattle.packet.specs.Flit.{field, class_numbered}
use Rattle.dateline_route.specs.declared.channel.Channel.{Channel}
use Rattle.dateline_route.specs.declared.channel.Input.{Input}
use Rattle.dateline_route.specs.Next.{next_of}
use Rattle.dateline_route.specs.Route.{route_of}
use Rattle.dateline_route.specs.Walk.{input_of}
use Rattle.dateline_route.proofs.Ends.{channels, classes}
use Rattle.dateline_route.proofs.First.{chosen_inside}
use Rattle.dateline_route.proofs.Walks.{ejection}
use Rattle.channel_number.specs.Order.{class_place, channels_at_tile, channel_index, channel_at}
use Rattle.channel_number.specs.Ports.{port_count, ejection_channel, input_channel, output_channel, output_number}
use Rattle.channel_number.specs.Ports.{input_router, input_numbered}
use Rattle.channel_number.proofs.Orders.{class_small}
use Rattle.channel_number.proofs.Decoding.{kind_by, encoded}
use Rattle.channel_number.proofs.Ports.{is_input}
use Rattle.channel_number.proofs.Leading.{input_by, output_is}
use Rattle.wormhole.specs.Net.{Parcel}
use Rattle.wormhole.specs.State.{NetState}
use Rattle.wormhole.specs.Delivery.{IsRouted}
use Rattle.wormhole.proofs.Lists.{all_on}
use Rattle.core_laws.specs.TorusNet.{torus_channel_after, torus_net}
use Rattle.core_laws.specs.TorusHeads.{head_output}
use Rattle.core_laws.proofs.Meeting.{are_ends, met}

-- the network's next channel is at the output that the router chooses
pub next_is : (s : Shape) (depth x dst : ℕ) (class : Class) → dst < tiles_of s
    → (torus_net s depth).next x (ejection_channel s dst class)
    ≡ output_channel s (input_router s x)
    (output_number (dims_of s) (channel_at s x).class (next_of s (input_router s x) (input_of (channel_at s x).kind) dst))
next_is s depth x dst class low =
    let c : Channel = channel_at s x in
    let t : ℕ = input_router s x in
    let at : channel_at s (ejection_channel s dst class) ≡ ejection dst class =
    encoded s (ejection dst class) (record { tile = low; kind = tt }) in
    ap (λ (y : Channel). channel_index s (torus_channel_after s c y.tile)) at
    ∙ sym (output_is s t c.class (next_of s t (input_of c.kind) dst) (chosen_inside s t (input_of c.kind) dst))

class_one : (a b : Class) → class_place a ≡ class_place b → a ≡ b
class_one Request Request e = refl
class_one Request Reply e = absurd (omega arith)
class_one Reply Request e = absurd (omega arith)
class_one Reply Reply e = refl

-- an ejection's number tells its tile and class
pub ejection_tells : (s : Shape) (t u : ℕ) (class other : Class) → ejection_channel s t class ≡ ejection_channel s u other
    → (t ≡ u) × (class ≡ other)
ejection_tells s t u class other e =
    let per : ℕ = channels_at_tile s in
    let n : ℕ = 8 * dims_of s in
    let p : ℕ = n + 2 + class_place class in
    let q : ℕ = n + 2 + class_place other in
    let low : p < per = omega (arith, class_small class) in
    let high : q < per = omega (arith, class_small other) in
    let place : p ≡ q = sym (mod-mul-add t per p low) ∙ (ap (λ m. m % per) e ∙ mod-mul-add u per q high) in
    (sym (div-mul-add t per p low) ∙ (ap (λ m. m / per) e ∙ div-mul-add u per q high), class_one class other (omega arith))

-- a head flit in a channel tells a tile of the torus, and the class of the channel
pub head_tells : (s : Shape) (depth : ℕ) (st : NetState) (x flit : ℕ) → IsAccepted s → IsRouted (torus_net s depth) st x flit
    → (field flit 51 6 < tiles_of s) × ((channel_at s x).class ≡ class_numbered (field flit 57 1))
head_tells s depth st x flit h r =
    let a : ℕ = field flit 51 6 in
    let c : Class = class_numbered (field flit 57 1) in
    let k : Parcel = r.packet in
    let ends = are_ends s k.source k.destination h r.parcel.joined in
    let dst : ℕ = (channel_at s k.destination).tile in
    let src : ℕ = (channel_at s k.source).tile in
    let class : Class = (channel_at s k.source).class in
    let path : List Channel = route_of s src dst class in
    let told : ejection_channel s a c ≡ ejection_channel s dst class =
    ap (torus_net s depth).told (sym r.head) ∙ (r.parcel.told ∙ ends.last) in
    let same = ejection_tells s a dst c class told in
    let m = met s path r.here.0 x r.here.1 (channels s h src dst ends.trip.from ends.trip.to class) r.here.2 in
    let classes_are = classes s h src dst ends.trip.from ends.trip.to class in (
      subst (λ m. m < tiles_of s) (sym same.0) ends.trip.to,
      all_on (λ (y : Channel). y.class ≡ class) path (channel_at s x) classes_are (m.earlier, m.later, m.whole) ∙ sym same.1,
    )

-- the next channel for a tile and the class of an input, at the output that the router chooses
pub chosen_is : (s : Shape) (depth : ℕ) (t i dst : ℕ) (class : Class) → IsAccepted s → t < tiles_of s → i < port_count (dims_of s)
    → dst < tiles_of s → (channel_at s (input_channel s t i)).class ≡ class
    → (torus_net s depth).next (input_channel s t i) (ejection_channel s dst class)
    ≡ output_channel s t (output_number (dims_of s) class (next_of s t (input_numbered (dims_of s) i) dst))
chosen_is s depth t i dst class h low small there own =
    let x : ℕ = input_channel s t i in
    let at = is_input s h t i low small in
    let came : input_of (channel_at s x).kind ≡ input_numbered (dims_of s) i =
    ap (λ p. input_of (kind_by (ltb p (8 * dims_of s)) (ltb p (8 * dims_of s + 2)) p)) at.port
    ∙ input_by (ltb i (8 * dims_of s)) (ltb i (8 * dims_of s + 2)) i in
    let out : Class → ℕ → Input → ℕ = λ v u w. output_channel s u (output_number (dims_of s) v (next_of s u w dst)) in
    next_is s depth x dst class there
    ∙ (ap (λ v. out v (input_router s x) (input_of (channel_at s x).kind)) own
    ∙ (ap (λ u. out class u (input_of (channel_at s x).kind)) at.router ∙ ap (out class t) came))

-- a head flit's next channel, at the output that the router finds from the flit, its tile and the input
pub head_goes_on : (s : Shape) (depth : ℕ) (st : NetState) (t i flit : ℕ) → IsAccepted s → t < tiles_of s → i < port_count (dims_of s)
    → IsRouted (torus_net s depth) st (input_channel s t i) flit
    → (field flit 51 6 < tiles_of s)
    × ((torus_net s depth).next (input_channel s t i) ((torus_net s depth).told flit) ≡ output_channel s t (head_output s t i flit))
head_goes_on s depth st t i flit h low small r =
    let tells = head_tells s depth st (input_channel s t i) flit h r in
    (tells.0, chosen_is s depth t i (field flit 51 6) (class_numbered (field flit 57 1)) h low small tells.0 tells.1)
