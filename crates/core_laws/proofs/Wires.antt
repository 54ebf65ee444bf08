-- What is asked of the machine's wires and flits.
use Rattle.std.specs.Prelude.{◌≡◌, ℕ, ◌<◌, true, false, Some, None}
use Rattle.torus.specs.Shape.{tiles_of, dims_of}
use Rattle.torus.specs.declared.shape.Class.{Class}
use Rattle.torus.specs.declared.shape.Class.TheVariants.{Request, Reply}
use Rattle.packet.specs.declared.heading.Head.{Head}
use Rattle.channel_number.specs.Order.{channel_count}
use Rattle.wormhole.specs.Ends.{Tiles}
use Rattle.packet.specs.Flits.{head_of}
use Rattle.channel_number.specs.Ports.{port_count}
use Rattle.router.specs.Table.{latch_of, way_of}
use Rattle.channel_number.specs.Ports.{injection_channel, ejection_channel, input_channel, output_channel}
use Rattle.core_laws.specs.Tile.{Design}
use Rattle.core_laws.specs.Core.{State}
use Rattle.core_laws.proofs.Projection.{net_of}
use Rattle.core_laws.proofs.Stands.{tile_at}

-- a router's port with this channel
pub record HasPort (d : Design) (channel_at : ℕ → ℕ → ℕ) (x : ℕ) : Type 0 where
  pub tile : ℕ
  pub port : ℕ
  pub here : tile < tiles_of d.shape
  pub low : port < port_count (dims_of d.shape)
  pub is : x ≡ channel_at tile port

-- an end of a tile with this channel
pub record HasEnd (d : Design) (channel_at : ℕ → Class → ℕ) (x : ℕ) : Type 0 where
  pub tile : ℕ
  pub class : Class
  pub here : tile < tiles_of d.shape
  pub is : x ≡ channel_at tile class

-- each channel comes from an end or a router, and goes to an end or a router
pub record AreWires (d : Design) : Type 0 where
  pub count : (net_of d).channels ≡ channel_count d.shape
  pub inputs : (x : ℕ) → x < (net_of d).channels → (net_of d).ejects x ≡ false → HasPort d (input_channel d.shape) x
  pub outputs : (x : ℕ) → x < (net_of d).channels → (net_of d).injects x ≡ false → HasPort d (output_channel d.shape) x
  pub injections : (x : ℕ) → x < (net_of d).channels → (net_of d).injects x ≡ true → HasEnd d (injection_channel d.shape) x
  pub ejections : (x : ℕ) → x < (net_of d).channels → (net_of d).ejects x ≡ true → HasEnd d (ejection_channel d.shape) x
  pub injects : (t : ℕ) (class : Class) → t < tiles_of d.shape → injection_channel d.shape t class < (net_of d).channels
  pub ejects : (t : ℕ) (class : Class) → t < tiles_of d.shape → ejection_channel d.shape t class < (net_of d).channels

-- the router's choice for a head flit is the network's
pub record Chooses (d : Design) (t i flit : ℕ) : Type 0 where
  pub head : Head
  pub told : head_of flit ≡ Some head
  pub low : way_of d.shape t i head < port_count (dims_of d.shape)
  pub is : output_channel d.shape t (way_of d.shape t i head) ≡ (net_of d).next (input_channel d.shape t i) ((net_of d).told flit)

-- a latched head flit tells a router its way, and any other tells it none
pub record FlitsTell (d : Design) (s : State) : Type 0 where
  pub heads : (t i flit : ℕ) → t < tiles_of d.shape → i < port_count (dims_of d.shape) → latch_of (tile_at s t).router i ≡ Some flit
      → (net_of d).is_head flit ≡ true → Chooses d t i flit
  pub rests : (flit : ℕ) → (net_of d).is_head flit ≡ false → head_of flit ≡ None

-- the ends of the machine's tiles
abbrev pub ends_of : Design → Tiles
ends_of d = record {
  count = tiles_of d.shape;
  asks = λ p. injection_channel d.shape p Request;
  hears = λ p. ejection_channel d.shape p Reply;
  serves = λ b. ejection_channel d.shape b Request;
  replies = λ b. injection_channel d.shape b Reply;
}
