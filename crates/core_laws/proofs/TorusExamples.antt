-- Worked channels and flits of small toruses, against the definitions.
use Rattle.std.proofs.Common.{◌≡◌, ℕ, true, false, [], ◌∷◌, refl}
use Rattle.torus.specs.Shape.{Shape}
use Rattle.torus.specs.declared.shape.Class.TheVariants.{Request}
use Rattle.torus.specs.declared.shape.Dir.TheVariants.{Plus}
use Rattle.packet.specs.Flit.{field}
use Rattle.dateline_route.specs.declared.channel.Kind.TheVariants.{Hop, Ejection}
use Rattle.wormhole.specs.Net.{Net}
use Rattle.core_laws.specs.TorusNet.{torus_channel_after, joins_in, torus_net}
use Rattle.core_laws.specs.TorusHeads.{head_output}

-- a ring of two tiles, with channels of four flits, and a ring of eight
abbrev two_tiles : Shape
two_tiles = record { radices = 2 ∷ []; datelines = 1 ∷ [] }

abbrev ring_of_eight : Shape
ring_of_eight = record { radices = 8 ∷ []; datelines = 7 ∷ [] }

abbrev net : Net
net = torus_net two_tiles 4

-- the head flit of a store from tile 0 to tile 1, that of one from tile 1 to tile 3, and a tail flit
abbrev head : ℕ
head = 11819697222033866752

abbrev head_to_3 : ℕ
head_to_3 = 11824236006033326080

abbrev tail : ℕ
tail = 6917529027641081856

-- the numbers of the channels are below 12
top_of_two_tiles : net.top ≡ 12
top_of_two_tiles = refl

-- the head bit makes a head flit, and the tail bit does not
head_is_a_head : net.is_head head ≡ true
unfolding field
head_is_a_head = refl

tail_is_no_head : net.is_head tail ≡ false
unfolding field
tail_is_no_head = refl

-- a head flit tells the ejection of the tile that it goes to: channel 22 takes the requests of tile 1
head_tells_its_destination : net.told head ≡ 22
unfolding field
head_tells_its_destination = refl

-- requests go from injection 8 to ejection 10 of tile 0, and not to ejection 11, where replies go
requests_go_to_requests : joins_in two_tiles 8 10 ≡ true
requests_go_to_requests = refl

no_request_becomes_a_reply : joins_in two_tiles 8 11 ≡ false
no_request_becomes_a_reply = refl

-- behind the hop from tile 0 to tile 1 a packet to tile 1 leaves the network there
hop_then_ejection : torus_channel_after two_tiles (record { tile = 0; class = Request; kind = Hop 0 Plus false }) 1
    ≡ record { tile = 1; class = Request; kind = Ejection }
hop_then_ejection = refl

-- a packet that comes over the dateline, by input 1 of tile 1, goes on by output 1; one by input 0 goes on by output 0
bit_is_kept : head_output ring_of_eight 1 1 head_to_3 ≡ 1
unfolding field
bit_is_kept = refl

no_bit_is_made : head_output ring_of_eight 1 0 head_to_3 ≡ 0
unfolding field
no_bit_is_made = refl
