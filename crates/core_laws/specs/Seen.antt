-- The state that tiles in their places and a row show: what a machine's fields stand for.
use Rattle.std.specs.Prelude.{◌≡◌, ℕ, ◌*◌, ◌<◌, ◌==◌, if◌then◌else◌, List, [], ◌∷◌, ◌++◌, length, map, Some}
use Rattle.std.specs.Prelude.{None, slice_get, slice_set}
use Rattle.std.specs.Prelude.{slice_index_or, MatchOption}
use Rattle.std.specs.List.{flat_map}
use Rattle.torus.specs.declared.step.Step.{Step}
use Rattle.home_bank.specs.declared.entry.Entry.{Entry}
use Rattle.one_order.specs.declared.answer.Answer.{Answer}
use Rattle.channel_number.specs.Order.{channel_count}
use Rattle.flit_buffer.specs.Ends.{SendingEnd, ReceivingEnd}
use Rattle.flit_buffer.specs.Surroundings.{Surroundings}
use Rattle.flit_buffer.specs.Seen.{surroundings_from}
use Rattle.flit_buffer.specs.Tries.{performed_by}
use Rattle.one_order.specs.ProcessorRecord.{no_processor, index_of}
use Rattle.one_order.specs.EventBook.{EventBook, noted_issue, noted_service, noted_answer}
use Rattle.core_laws.specs.Tile.{Design, TileState}
use Rattle.core_laws.specs.Agents.{TilePlace, state_of, tile_next_op, agent_tile}
use Rattle.tile.specs.Placed.{tile_attempted}
use Rattle.core_laws.specs.Core.{State, records_of, step}
use Rattle.core_laws.specs.Row.{row_of}
use Rattle.core_laws.specs.Attempts.{tile_in}

-- the receiving ends of a tile's agents, and their sending ends
abbrev pub receivers : TilePlace → List ReceivingEnd
receivers p = p.processor.ports.inputs ++ (p.router.ports.inputs ++ p.bank.ports.inputs)

abbrev pub senders : TilePlace → List SendingEnd
senders p = p.processor.ports.outputs ++ (p.router.ports.outputs ++ p.bank.ports.outputs)

-- the place that is emptied next of the channel whose places begin at a position; 0 where no end is
-- of it
abbrev pub front_at : ℕ → List ReceivingEnd → ℕ
front_at base [] = 0
front_at base (r ∷ rs) = if r.base == base then r.next else front_at base rs

-- the credits that are held of the channel whose places begin at a position; 0 where no end is of
-- it
abbrev pub held_at : ℕ → List SendingEnd → ℕ
held_at base [] = 0
held_at base (r ∷ rs) = if r.base == base then r.credits else held_at base rs

-- the channels and words that a row shows, by the ends of these tiles' agents (this project's own
-- format)
abbrev pub around_seen : Design → List TilePlace → List ℕ → Surroundings
around_seen d places row = surroundings_from row d.depth (channel_count d.shape)
    (λ x. front_at (x * d.depth) (flat_map receivers places))
    (λ x. held_at (x * d.depth) (flat_map senders places))

-- the state that these tiles and this row show (this project's own format)
abbrev pub state_seen : Design → List TilePlace → List ℕ → State
state_seen d places row = record { tiles = map state_of places; around = around_seen d places row }

-- the tiles are those of the state in their places, and the row is its row (this project's own
-- format)
pub record IsShown (d : Design) (s : State) (places : List TilePlace) (row : List ℕ) : Type 0 where
  pub tiles : (t : ℕ) → slice_get places t ≡ tile_in d s t
  pub row_is : row ≡ row_of d s

-- an attempt, tried over the row at the tile of which it is: where the tile doesn't move, the
-- attempt isn't enabled and the row stays; where it moves, the tiles and the row show the next
-- state (Lynch and Vaandrager, 1995: forward simulation)
abbrev pub LeadsOn : Design → State → List TilePlace → List ℕ → Step → TilePlace → Type 0
LeadsOn d s places row attempt p =
    MatchOption (tile_attempted p attempt row)
    ((step d s attempt ≡ None) × (performed_by row (tile_next_op p attempt) ≡ row))
    (λ q. (next : State) × (step d s attempt ≡ Some next)
    × IsShown d next (slice_set places (agent_tile attempt.agent) q)
    (performed_by row (tile_next_op p attempt)))

-- What is noted of a step, told by how many operations, answers and entries its tile t has before
-- and after it: one operation more is an issue, one answer more an answer, one entry more a service
-- (this project's own format).
pub record IsToldByCounts (s : State) (t : ℕ) (before after : TileState)
    (g noted : EventBook) : Type 0 where
  pub issue : length before.processor.operations.issued < length after.processor.operations.issued
      → noted ≡ noted_issue t g
  pub answer : (a : Answer)
      → slice_get after.processor.operations.answers (length before.processor.operations.answers)
      ≡ Some a
      → noted ≡ noted_answer a.bank a.place g
  pub service : (e : Entry) → slice_get after.bank.entries (length before.bank.entries) ≡ Some e
      → noted ≡ noted_service t e.source
      (index_of (slice_index_or (records_of s) e.source no_processor) e.tag.0) g
  pub nothing : length after.processor.operations.issued ≡ length before.processor.operations.issued
      → length after.processor.operations.answers ≡ length before.processor.operations.answers
      → length after.bank.entries ≡ length before.bank.entries → noted ≡ g
