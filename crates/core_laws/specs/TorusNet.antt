-- The wormhole network of a torus.
-- Chapters are those of Dally and Towles, Principles and Practices of Interconnection Networks.
use Rattle.std.specs.Prelude.{ℕ, ◌+◌, ◌*◌, ◌==◌, ◌&&◌, nat_lt, Bool, true, false, List, map, sum}
use Rattle.torus.specs.Shape.{Shape}
use Rattle.torus.specs.declared.shape.Class.{Class}
use Rattle.torus.specs.declared.shape.Class.TheVariants.{Request, Reply}
use Rattle.packet.specs.declared.kinds.Packet.{Packet}
use Rattle.packet.specs.Flit.{field, class_numbered}
use Rattle.packet.specs.Spelling.{class_of, source_of, destination_of}
use Rattle.dateline_route.specs.declared.channel.Channel.{Channel}
use Rattle.dateline_route.specs.Route.{route_of}
use Rattle.dateline_route.specs.Next.{next_of}
use Rattle.dateline_route.specs.Walk.{input_of, kind_of}
use Rattle.channel_number.specs.Order.{channel_index, channel_count, channel_at}
use Rattle.channel_number.specs.Ports.{is_injection, is_ejection, tile_after, injection_channel, ejection_channel}
use Rattle.channel_number.specs.Number.{number_of}
use Rattle.wormhole.specs.Net.{Net, Parcel}

-- whether two classes are one
abbrev pub same_class : Class → Class → Bool
same_class Request Request = true
same_class Reply Reply = true
same_class _ _ = false

-- the channel that the router behind a channel chooses for packets to a tile (Dally and Towles,
-- chapter 8)
abbrev pub torus_channel_after : Shape → Channel → ℕ → Channel
torus_channel_after s x dst = record {
  tile = tile_after s x.tile x.kind;
  class = x.class;
  kind = kind_of (next_of s (tile_after s x.tile x.kind) (input_of x.kind) dst);
}

-- whether packets go between two channels: from an injection to an ejection of one class (this
-- project's own format)
abbrev pub joins_in : Shape → ℕ → ℕ → Bool
joins_in s i j =
    (nat_lt i (channel_count s) && is_injection (channel_at s i).kind)
    && (nat_lt j (channel_count s) && is_ejection (channel_at s j).kind)
    && same_class (channel_at s i).class (channel_at s j).class

-- the network of a torus whose channels hold so many flits, in channel order (Dally and Towles,
-- chapters 5, 8 and 14)
abbrev pub torus_net : Shape → ℕ → Net
torus_net s depth = record {
  channels = channel_count s;
  depth = depth;
  injects = λ x. is_injection (channel_at s x).kind;
  ejects = λ x. is_ejection (channel_at s x).kind;
  joins = joins_in s;
  route = λ i j.
      map (channel_index s) (route_of s (channel_at s i).tile (channel_at s j).tile
      (channel_at s i).class);
  next = λ x j. channel_index s (torus_channel_after s (channel_at s x) (channel_at s j).tile);
  number = λ x. number_of s (channel_at s x);
  top = 4 + 4 * sum s.radices;
  is_head = λ flit. field flit 63 1 == 1 && field flit 61 1 == 1;
  is_tail = λ flit. field flit 62 1 == 1;
  told = λ flit. ejection_channel s (field flit 51 6) (class_numbered (field flit 57 1));
}

-- a packet in the network of a torus, spelled by a head flit and the flits after it
abbrev pub torus_parcel : Shape → Packet → ℕ → ℕ → List ℕ → Parcel
torus_parcel s p index head tail = record {
  source = injection_channel s (source_of p) (class_of p);
  destination = ejection_channel s (destination_of p) (class_of p);
  index = index;
  head = head;
  tail = tail;
}
