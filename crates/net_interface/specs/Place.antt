-- A processor at its tile, and what it asks of a flit that it takes.
use Rattle.std.specs.Prelude.{◌≢◌, ◌==◌, ◌||◌, ℕ, Bool, true, is_some, unwrap_or, IsSome}
use Rattle.torus.specs.declared.step.Choice.{Choice}
use Rattle.torus.specs.declared.step.Choice.TheVariants as choice
use Rattle.packet.specs.declared.kinds.Packet.TheVariants.{Response}
use Rattle.packet.specs.declared.assembler.Offered.{Offered}
use Rattle.packet.specs.declared.assembler.Offered.TheVariants.{Whole}
use Rattle.packet.specs.Flit.{field}
use Rattle.packet.specs.Flits.{offered}
use Rattle.flit_buffer.specs.Agent.{Agent}
use Rattle.flit_buffer.specs.Channel.{first_of}
use Rattle.tag_table.specs.Tags.{holder_of}
use Rattle.one_order.specs.ProcessorRecord.{ProcessorRecord}
use Rattle.one_order.specs.ProcessorTable.{ProcessorState}

-- where a processor stands (how many tiles and words there are, and which tile is its own), and the
-- agent that it is (this project's own format)
pub record ProcessorPlace : Type 0 where
  pub tiles : ℕ
  pub words : ℕ
  pub tile : ℕ
  pub agent : Agent ProcessorState

-- the processor at the same place with another agent's state and ports
abbrev pub processor_with_agent : ProcessorPlace → Agent ProcessorState → ProcessorPlace
processor_with_agent p a = record { tiles = p.tiles; words = p.words; tile = p.tile; agent = a }

-- the processor with another state and the same ports
abbrev pub with_state : ProcessorPlace → ProcessorState → ProcessorPlace
with_state p s = processor_with_agent p (record { state = s; ports = p.agent.ports })

-- what the assembler makes of a flit is for the processor: a reply that is whole is one to an
-- operation that holds its tag (this project's own format)
abbrev pub IsForProcessor : ProcessorRecord → Offered → Type 0
IsForProcessor b (Whole (Response r)) = IsSome (holder_of b.tags r.tag.0)
IsForProcessor b _ = Unit {0}

-- what the word found may be: where a flit is taken, one by which no reply is whole but to an
-- operation that holds its tag (this project's own format)
abbrev pub IsAcceptableToProcessor : ProcessorState → Choice → ℕ → Type 0
IsAcceptableToProcessor p choice.Take found = found ≢ 0 → IsForProcessor p.operations (offered p.so_far found)
IsAcceptableToProcessor p _ found = Unit {0}

-- whether the tag is out that stands in the head flit of the packet that a flit begins or goes on
-- with (this project's own format)
abbrev pub is_tagged : ProcessorState → ℕ → Bool
is_tagged p flit = is_some
    (holder_of p.operations.tags (field (unwrap_or (first_of p.so_far) flit) 41 4))

-- whether no flit is taken, or one of a packet whose tag is out (this project's own format)
abbrev pub accepts : ProcessorState → Choice → ℕ → Bool
accepts p choice.Take found = (found == 0) || is_tagged p found
accepts p _ found = true
