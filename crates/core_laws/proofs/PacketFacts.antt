-- A packet that is spelled is one of the network's.
use Rattle.std.proofs.Common.{◌≡◌, ◌↔◌, ℕ, ◌<◌, ◌==◌, Bool, true, List, [], ◌∷◌, refl, sym, ◌∙◌, ap, ap₂, subst, eq-eqb}
use Rattle.std.specs.Prelude.{◌&&◌}
use Rattle.std.proofs.lemmas.Bool.{ne_eqb}
use Rattle.torus.specs.Shape.{tiles_of}
use Rattle.packet.specs.declared.kinds.Packet.{Packet}
use Rattle.packet.specs.Flit.{field}
use Rattle.packet.specs.Spelling.{Spells, TellsPacket, IsTailShaped as IsShaped, tail_bit_before, class_of, destination_of, source_of}
use Rattle.packet.proofs.Shapes.{TellsPacket-spelled, tail_bit-head, IsTailShaped-spelled}
use Rattle.wormhole.specs.Net.{Parcel, IsParcel, EndsWithTail, has_no_flit}
use Rattle.packet.specs.Flits.{is_tail, flits_of}
use Rattle.channel_number.specs.Ports.{injection_channel, ejection_channel}
use Rattle.tile.specs.Tile.{Design}
use Rattle.core_laws.proofs.Projection.{net_of, parcel_of}
use Rattle.core_laws.proofs.Parcels.{parcel_flits}
use Rattle.core_laws.proofs.ChannelFacts.{joined}

tail_told : (flits : List ℕ) → (tail_bit_before flits == 1) ≡ has_no_flit flits
tail_told [] = refl
tail_told (flit ∷ flits) = refl

shaped : (d : Design) (flits : List ℕ) → IsShaped flits → EndsWithTail (net_of d) flits
unfolding net_of
shaped d [] h = tt
shaped d (flit ∷ flits) h = (ap (λ (n : ℕ). n == 1 && field flit 61 1 == 1) h.0, ap (λ (n : ℕ). n == 1) h.1 ∙ tail_told flits, shaped d flits h.2)

alone : (flit : ℕ) (flits : List ℕ) → ((field flit 62 1 ≡ 1) ↔ (flits ≡ [])) → is_tail flit ≡ has_no_flit flits
alone flit [] h = eq-eqb (field flit 62 1) 1 (h.1 refl)
alone flit (x ∷ flits) h = ne_eqb (field flit 62 1) 1 (λ e. let no = h.0 e in cc)

told_is : (d : Design) (p : Packet) (head : ℕ) → TellsPacket p head
    → ((net_of d).is_head head ≡ true) × ((net_of d).told head ≡ ejection_channel d.shape (destination_of p) (class_of p))
unfolding net_of
told_is d p head h = (
  ap₂ (λ (x y : Bool). x && y) (eq-eqb (field head 63 1) 1 h.head_bit) (eq-eqb (field head 61 1) 1 h.flit_bit),
  ap₂
      (ejection_channel d.shape) h.destination h.class,
)

alone_is : (d : Design) (flit : ℕ) (flits : List ℕ) → ((field flit 62 1 ≡ 1) ↔ (flits ≡ [])) → (net_of d).is_tail flit ≡ has_no_flit flits
unfolding net_of
alone_is d flit flits h = alone flit flits h

ends_are : (d : Design) (p : Packet)
    → ((parcel_of d.shape p).source ≡ injection_channel d.shape (source_of p) (class_of p))
    × ((parcel_of d.shape p).destination ≡ ejection_channel d.shape (destination_of p) (class_of p))
unfolding parcel_of
ends_are d p = (refl, refl)

-- a packet between tiles of the machine is a packet of its network
pub is_parcel : (d : Design) (p : Packet) → Spells p (flits_of p) → source_of p < tiles_of d.shape → destination_of p < tiles_of d.shape
    → IsParcel (net_of d) (parcel_of d.shape p)
is_parcel d p h source destination =
    let k : Parcel = parcel_of d.shape p in
    let spelled : Spells p (k.head ∷ k.tail) = subst (Spells p) (parcel_flits d.shape p h) h in
    let ends = ends_are d p in
    let tells = told_is d p k.head (TellsPacket-spelled p k.head k.tail spelled) in
    record {
      joined = ap₂ (net_of d).joins ends.0 ends.1 ∙ joined d (source_of p) (destination_of p) (class_of p) source destination;
      head = tells.0;
      told = tells.1 ∙ sym ends.1;
      alone = alone_is d k.head k.tail (tail_bit-head p k.head k.tail spelled);
      tail = shaped d k.tail (IsTailShaped-spelled p k.head k.tail spelled);
    }
