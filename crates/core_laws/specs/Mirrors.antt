-- A machine's channels and agents as its network's lines.
use Rattle.std.specs.Prelude.{◌≡◌, ◌↔◌, ℕ, ◌<◌, false, if◌then◌else◌, List, [], length, Some, None, slice_index_or}
use Rattle.torus.specs.Shape.{tiles_of, dims_of}
use Rattle.torus.specs.declared.shape.Class.TheVariants.{Request, Reply}
use Rattle.channel_number.specs.Order.{channel_count}
use Rattle.channel_number.specs.Ports.{port_count, injection_channel, ejection_channel, input_channel, output_channel}
use Rattle.flit_buffer.specs.Channel as channel
use Rattle.flit_buffer.specs.Surroundings.{ring}
use Rattle.wormhole.specs.State.{NetLine as Lane}
use Rattle.one_order.specs.ProcessorRecord.{no_processor}
use Rattle.router.specs.Table.{latch_of, output_owned}
use Rattle.tile.specs.Tile.{Design, TileState}
use Rattle.core_laws.specs.Heads.{carries_route}
use Rattle.core_laws.specs.Core.{State}
use Rattle.core_laws.specs.Delivery.{next_flit}

-- stands where there is no tile of a number
abbrev pub no_tile : TileState
no_tile = record {
  processor = record {
    operations = no_processor;
    to_put = [];
    so_far = [];
    reported = false;
    seen = false;
  };
  router = record { latches = []; owned = [] };
  bank = record { entries = []; so_far = []; waiting = None; to_put = [] };
}

-- the tile of a number
abbrev pub tile_at : State → ℕ → TileState
tile_at s t = slice_index_or s.tiles t no_tile

-- the network's line of a channel has the flits and the credits of the machine's channel
pub record IsLane (ch : channel.ChannelState) (l : Lane) : Type 0 where
  pub flits : l.flits ≡ ch.flits
  pub held : l.held ≡ ch.held
  pub returning : l.returning ≡ ch.returning

-- the flits left of a packet of which the head is put: none where the next flit is a head
abbrev pub in_course : List ℕ → List ℕ
in_course flits = if carries_route (next_flit flits) then [] else flits

-- The network's lines mirror the machine: each channel's flits and credits; each router's latches,
-- and which of its inputs owns which output; and of each processor and bank the flits left to put
-- of the packet in course, and the flits so far of the one that comes in (Dally and Towles, chapter
-- 16).
pub record Mirrors (d : Design) (s : State) (lines : ℕ → Lane) : Type 0 where
  pub count : length s.around.rings ≡ channel_count d.shape
  pub rings : (x : ℕ) → x < channel_count d.shape → IsLane (ring s.around.rings x).channel (lines x)
  pub ports : (t : ℕ) → t < tiles_of d.shape
      → (length (tile_at s t).router.latches ≡ port_count (dims_of d.shape))
      × (length (tile_at s t).router.owned ≡ port_count (dims_of d.shape))
  pub latches : (t i : ℕ) → t < tiles_of d.shape → i < port_count (dims_of d.shape)
      → (lines (input_channel d.shape t i)).latch ≡ latch_of (tile_at s t).router i
  pub owners : (t i o : ℕ) → t < tiles_of d.shape → i < port_count (dims_of d.shape)
      → o < port_count (dims_of d.shape)
      → ((lines (output_channel d.shape t o)).owner ≡ Some (input_channel d.shape t i))
      ↔ (output_owned (tile_at s t).router i ≡ Some o)
  pub unowned : (t o : ℕ) → t < tiles_of d.shape → o < port_count (dims_of d.shape)
      → ((i : ℕ) → output_owned (tile_at s t).router i ≡ Some o → ⊥)
      → (lines (output_channel d.shape t o)).owner ≡ None
  pub outputs : (t i o : ℕ) → t < tiles_of d.shape → output_owned (tile_at s t).router i ≡ Some o
      → o < port_count (dims_of d.shape)
  pub sends_requests : (t : ℕ) → t < tiles_of d.shape
      → (lines (injection_channel d.shape t Request)).rest ≡ (tile_at s t).processor.to_put
  pub sends_replies : (t : ℕ) → t < tiles_of d.shape
      → (lines (injection_channel d.shape t Reply)).rest ≡ in_course (tile_at s t).bank.to_put
  pub takes_replies : (t : ℕ) → t < tiles_of d.shape
      → (lines (ejection_channel d.shape t Reply)).so_far ≡ (tile_at s t).processor.so_far
  pub takes_requests : (t : ℕ) → t < tiles_of d.shape
      → (lines (ejection_channel d.shape t Request)).so_far ≡ (tile_at s t).bank.so_far
