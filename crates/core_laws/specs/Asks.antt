-- What agents ask of the words that they find, and of the room that they have.
use Rattle.std.specs.Prelude.{◌≡◌, ◌≢◌, ℕ, ◌<◌, List, length, Some, IfSome, slice_get}
use Rattle.torus.specs.Shape.{tiles_of, dims_of}
use Rattle.torus.specs.declared.shape.Class.TheVariants as class
use Rattle.torus.specs.declared.step.Choice.TheVariants as choice
use Rattle.packet.specs.declared.kinds.Operation.{Operation}
use Rattle.packet.specs.declared.kinds.Packet.{Packet}
use Rattle.packet.specs.declared.kinds.Packet.TheVariants as packet
use Rattle.packet.specs.declared.kinds.Request.{Request}
use Rattle.packet.specs.declared.kinds.Response.{Response}
use Rattle.packet.specs.declared.assembler.Kind.{Kind}
use Rattle.packet.specs.declared.assembler.Offered.TheVariants.{Whole, Refused}
use Rattle.packet.specs.Spelling.{Spells, IsSpellable}
use Rattle.packet.specs.Flit.{field}
use Rattle.packet.specs.Flits.{offered, flits_of, head_of}
use Rattle.script_lines.specs.declared.line.Line.{Line}
use Rattle.script_lines.specs.Lines.{operation_count}
use Rattle.flit_buffer.specs.declared.want.Want.TheVariants.{Take}
use Rattle.flit_buffer.specs.Surroundings.{Surroundings, ring}
use Rattle.channel_number.specs.Ports.{port_count, input_channel, ejection_channel}
use Rattle.home_bank.specs.ServiceList.{address_of}
use Rattle.home_bank.specs.BankTable.{BankState, bank_wants}
use Rattle.one_order.specs.ProcessorRecord.{ProcessorRecord, ready, request_of}
use Rattle.one_order.specs.ProcessorTable.{ProcessorState}
use Rattle.one_order.specs.Room.{home_room}
use Rattle.router.specs.Table.{IsRoutable}
use Rattle.tile.specs.Tile.{Design}
use Rattle.core_laws.specs.Delivery.{next_flit}

-- the word that is found at the receiving end of channel x: its first flit, 0 where it has none
-- (this project's own format)
abbrev pub flit_found : Surroundings → ℕ → ℕ
flit_found around x = next_flit (ring around.rings x).channel.flits

-- a flit goes on with a packet after these flits: the assembler takes it, and the packet that it
-- makes whole passes
pub record IsNextFlit (passes : Packet → Type 0) (so_far : List ℕ) (flit : ℕ) : Type 0 where
  pub taken : (kind : Kind) → offered so_far flit ≡ Refused kind → ⊥
  pub whole : (p : Packet) → offered so_far flit ≡ Whole p → passes p

-- the number of tiles, and the tile of the agent
module _ (tiles t : ℕ) where
  -- a response to a processor: it comes from a bank that is there, and an operation that the
  -- processor has issued holds its tag (this project's own format)
  pub record AnswersHeld (b : ProcessorRecord) (r : Response) : Type 0 where
    pub destination : r.destination ≡ t
    pub bank : r.source < tiles
    pub index : ℕ
    pub holds : slice_get b.tags r.tag.0 ≡ Some (Some (record { 0 = index }))
    pub issued : index < length b.issued

  -- the packet is such a response
  abbrev pub IsResponseTo : ProcessorRecord → Packet → Type 0
  IsResponseTo b (packet.Request r) = ⊥
  IsResponseTo b (packet.Response r) = AnswersHeld b r

  -- a request to a bank, of so many words of the memory: it comes from a processor that is there,
  -- and asks for a word that is there; and what it tells fits a head flit
  pub record AsksHere (words : ℕ) (r : Request) : Type 0 where
    pub destination : r.destination ≡ t
    pub source : r.source < tiles
    pub word : address_of t tiles r.word < words
    pub spellable : IsSpellable (packet.Request r)

  -- the packet is such a request
  abbrev pub IsRequestTo : ℕ → Packet → Type 0
  IsRequestTo words (packet.Request r) = AsksHere words r
  IsRequestTo words (packet.Response r) = ⊥

-- what the router of tile t asks of the flits at its inputs: that head flits name tiles (this
-- project's own format)
pub record RouterAsks (d : Design) (t : ℕ) (around : Surroundings) : Type 0 where
  pub flits : (i : ℕ) → i < port_count (dims_of d.shape)
      → IsRoutable d.shape (choice.TakeFrom i) (flit_found around (input_channel d.shape t i))

-- what the processor of tile t asks: the next flit of a response to it, if it finds one; and of
-- what it can issue, that it is of a word of the memory and spelled by its flits, and that its
-- script has it left (this project's own format)
pub record ProcessorAsks (d : Design) (lines : List Line) (t : ℕ) (p : ProcessorState)
    (around : Surroundings) : Type 0 where
  pub flit : flit_found around (ejection_channel d.shape t class.Reply) ≢ 0
      → IsNextFlit (IsResponseTo (tiles_of d.shape) t p.operations) p.so_far
      (flit_found around (ejection_channel d.shape t class.Reply))
  pub request : (tag : ℕ) (o : Operation) → ready p.operations ≡ Some (tag, o)
      → (o.address < d.words) × (tag < length p.operations.tags)
      × Spells (packet.Request (request_of (tiles_of d.shape) t tag o))
      (flits_of (packet.Request (request_of (tiles_of d.shape) t tag o)))
  pub room : (tag : ℕ) (o : Operation) → ready p.operations ≡ Some (tag, o)
      → length p.operations.issued < operation_count lines

-- what the bank of tile t asks: that a head flit of a request that it finds names a word that a
-- memory may have; the next flit of a request to it, if it finds one when it takes; and while a
-- request waits, that it is of a word of the bank, and that the bank has room for its entry (this
-- project's own format)
pub record BankAsks (d : Design) (scripts : List (List Line)) (t : ℕ) (b : BankState)
    (around : Surroundings) : Type 0 where
  pub head : IfSome (head_of (flit_found around (ejection_channel d.shape t class.Request)))
      (λ head. head.class ≡ class.Request
      → field (flit_found around (ejection_channel d.shape t class.Request)) 0 32 < 65536)
  pub flit : bank_wants (tiles_of d.shape) t b choice.Take ≡ Some (Take 0)
      → flit_found around (ejection_channel d.shape t class.Request) ≢ 0
      → IsNextFlit (IsRequestTo (tiles_of d.shape) t d.words) b.so_far
      (flit_found around (ejection_channel d.shape t class.Request))
  pub request : (r : Request) → b.waiting ≡ Some r → AsksHere (tiles_of d.shape) t d.words r
  pub room : (r : Request) → b.waiting ≡ Some r
      → length b.entries < home_room (tiles_of d.shape) t scripts
