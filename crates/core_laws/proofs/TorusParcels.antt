-- A packet that is spelled is one on its way.
use Rattle.std.proofs.Common.{◌≡◌, ℕ, ◌<◌, ◌&&◌, Bool, true, List, [], ◌∷◌, refl, sym, ◌∙◌, ap, ap₂, eqb, ltb, lt-ltb, eq-eqb, ne_eqb}
use Rattle.std.proofs.lemmas.Bool.{and_from}
use Rattle.torus.specs.Shape.{Shape, tiles_of}
use Rattle.torus.specs.declared.shape.Class.{Class}
use Rattle.torus.specs.declared.shape.Class.TheVariants.{Request, Reply}
use Rattle.packet.specs.declared.kinds.Packet.{Packet}
use Rattle.packet.specs.Flit.{field}
use Rattle.packet.specs.Spelling.{Spells, TellsPacket, class_of, source_of, destination_of, tail_bit_before, IsTailShaped as HasTailShape}
use Rattle.packet.proofs.Shapes.{TellsPacket-spelled, tail_bit-head, IsTailShaped-spelled}
use Rattle.dateline_route.specs.declared.channel.Channel.{Channel}
use Rattle.dateline_route.specs.Walk.{IsChannel}
use Rattle.dateline_route.proofs.Walks.{injection, ejection}
use Rattle.channel_number.specs.Order.{channel_index, channel_count}
use Rattle.channel_number.proofs.Orders.{index_below}
use Rattle.wormhole.specs.Net.{IsParcel, EndsWithTail, has_no_flit}
use Rattle.channel_number.specs.Order.{channel_at}
use Rattle.channel_number.specs.Ports.{is_injection, is_ejection, injection_channel, ejection_channel}
use Rattle.core_laws.specs.TorusNet.{same_class, joins_in, torus_net, torus_parcel}
use Rattle.channel_number.proofs.Decoding.{encoded}

own_class : (class : Class) → same_class class class ≡ true
own_class Request = refl
own_class Reply = refl

-- the injection of a tile and the ejection of another are joined, for one class
pub joined : (s : Shape) (src dst : ℕ) (class : Class) → src < tiles_of s → dst < tiles_of s
    → joins_in s (injection_channel s src class) (ejection_channel s dst class) ≡ true
joined s src dst class from to =
    let x : Channel = injection src class in
    let y : Channel = ejection dst class in
    let a : IsChannel s x = record { tile = from; kind = tt } in
    let b : IsChannel s y = record { tile = to; kind = tt } in
    let e : channel_at s (channel_index s x) ≡ x = encoded s x a in
    let f : channel_at s (channel_index s y) ≡ y = encoded s y b in
    let c : Channel = channel_at s (channel_index s x) in
    let d : Channel = channel_at s (channel_index s y) in
    let n : ℕ = channel_count s in
    let left : (ltb (channel_index s x) n && is_injection c.kind) ≡ true =
    and_from (ltb (channel_index s x) n) (is_injection c.kind) (lt-ltb (channel_index s x) n (index_below s x a))
    (ap (λ (z : Channel). is_injection z.kind) e) in
    let right : (ltb (channel_index s y) n && is_ejection d.kind) ≡ true =
    and_from (ltb (channel_index s y) n) (is_ejection d.kind) (lt-ltb (channel_index s y) n (index_below s y b)) (ap (λ (z : Channel). is_ejection z.kind) f) in
    and_from ((ltb (channel_index s x) n && is_injection c.kind) && (ltb (channel_index s y) n && is_ejection d.kind)) (same_class c.class d.class)
    (and_from (ltb (channel_index s x) n && is_injection c.kind) (ltb (channel_index s y) n && is_ejection d.kind) left right)
    (ap₂ (λ (v w : Channel). same_class v.class w.class) e f ∙ own_class class)

-- the tail bit of a flit
alone_is : (bit : ℕ) (tail : List ℕ) → ((bit ≡ 1) → tail ≡ []) → (tail ≡ [] → bit ≡ 1) → eqb bit 1 ≡ has_no_flit tail
alone_is bit [] h g = eq-eqb bit 1 (g refl)
alone_is bit (f ∷ fs) h g = ne_eqb bit 1 (λ e. let none = h e in cc)

tail_is : (bit : ℕ) (tail : List ℕ) → bit ≡ tail_bit_before tail → eqb bit 1 ≡ has_no_flit tail
tail_is bit [] h = eq-eqb bit 1 h
tail_is bit (f ∷ fs) h = ne_eqb bit 1 (λ e. let none : 0 ≡ 1 = sym h ∙ e in cc)

pub shaped : (s : Shape) (depth : ℕ) (flits : List ℕ) → HasTailShape flits → EndsWithTail (torus_net s depth) flits
shaped s depth [] h = tt
shaped s depth (flit ∷ flits) h = (
  ap (λ (b : Bool). b && eqb (field flit 61 1) 1) (ne_eqb (field flit 63 1) 1 (λ e. let none : 0 ≡ 1 = sym h.0 ∙ e in cc)),
  tail_is (field flit 62 1) flits h.1,
  shaped s depth flits h.2,
)

pub is_parcel : (s : Shape) (depth : ℕ) (p : Packet) (index head : ℕ) (tail : List ℕ) → source_of p < tiles_of s
    → destination_of p < tiles_of s → Spells p (head ∷ tail)
    → IsParcel (torus_net s depth) (torus_parcel s p index head tail)
is_parcel s depth p index head tail from to spelled =
    let tells : TellsPacket p head = TellsPacket-spelled p head tail spelled in
    let alone = tail_bit-head p head tail spelled in
    record {
      joined = joined s (source_of p) (destination_of p) (class_of p) from to;
      head = and_from (eqb (field head 63 1) 1) (eqb (field head 61 1) 1) (eq-eqb (field head 63 1) 1 tells.head_bit)
          (eq-eqb (field head 61 1) 1 tells.flit_bit);
      told = ap₂ (ejection_channel s) tells.destination tells.class;
      alone = alone_is (field head 62 1) tail alone.0 alone.1;
      tail = shaped s depth tail (IsTailShaped-spelled p head tail spelled);
    }
