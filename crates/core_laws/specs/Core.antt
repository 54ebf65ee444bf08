-- The core: all tiles and what they share, its steps, runs and rounds.
pub use Rattle.tile.specs.Agents.{agent_numbered}
use Rattle.std.specs.Prelude.{ℕ, false, List, [], ◌∷◌, ◌++◌, length, map, take}
use Rattle.std.specs.Prelude.{replicate, Option, Some, None, option_map, option_and_then, slice_get, slice_set}
use Rattle.std.specs.List.{flat_map, range_with_len}
use Rattle.torus.specs.Shape.{Shape, tiles_of, dims_of}
use Rattle.torus.specs.declared.step.Step.{Step}
use Rattle.torus.specs.declared.step.Choice.{Choice}
use Rattle.torus.specs.Choices.{processor_choices, router_choices, bank_choices}
use Rattle.script_lines.specs.declared.line.Line.{Line}
use Rattle.flit_buffer.specs.Places.{empty_ring}
use Rattle.flit_buffer.specs.Surroundings.{Surroundings}
use Rattle.channel_number.specs.Order.{channel_count}
use Rattle.one_order.specs.Following.{first_of}
use Rattle.one_order.specs.Observed.{Observed, Run}
use Rattle.one_order.specs.ProcessorRecord.{ProcessorRecord}
use Rattle.channel_number.specs.Ports.{port_count}
pub use Rattle.one_order.specs.Load.{Load}
use Rattle.tile.specs.declared.agent.Agent.TheVariants.{Processor, Router, Bank}
use Rattle.tile.specs.Tile.{Design, TileState, tile_step}
use Rattle.tile.specs.Agents.{agent_number, agent_kind, agent_tile}

-- the state of a machine: its tiles, and what they share, that is the channels, and the words of
-- the memory with the done word behind them
pub record State : Type 0 where
  pub tiles : List TileState
  pub around : Surroundings

-- the core's step: one choice of one agent; None where it isn't enabled (Dally and Towles, chapters
-- 13 and 16)
abbrev pub step : Design → State → Step → Option State
step d s attempt = option_and_then (λ tile.
    option_map
    (λ p. record { tiles = slice_set s.tiles (agent_tile attempt.agent) p.0; around = p.1 })
    (tile_step d (agent_tile attempt.agent) tile s.around (agent_kind attempt.agent)
    attempt.choice))
    (slice_get s.tiles (agent_tile attempt.agent))

-- the next state where there is one, and else the same
abbrev pub or_same : State → Option State → State
or_same s None = s
or_same s (Some next) = next

-- the state after an attempt: one that isn't enabled changes nothing
abbrev pub next : Design → State → Step → State
next d s attempt = or_same s (step d s attempt)

-- the state after a list of attempts
abbrev pub after_from : Design → State → List Step → State
after_from d s [] = s
after_from d s (attempt ∷ attempts) = after_from d (next d s attempt) attempts

-- the design of the machine that a load is for
abbrev pub design_of : Load → Design
design_of l = record { shape = l.shape; depth = l.depth; words = length l.opening }

-- a tile before any step, of a torus of so many dimensions, with so many tags and the script of its
-- processor
abbrev pub first_tile : ℕ → ℕ → List Line → TileState
first_tile dims tags lines = record {
  processor = record {
    operations = record {
      following = first_of lines;
      tags = replicate tags None;
      issued = [];
      answers = [];
    };
    to_put = [];
    so_far = [];
    reported = false;
    seen = false;
  };
  router = record {
    latches = replicate (port_count dims) None;
    owned = replicate (port_count dims) None;
  };
  bank = record { entries = []; so_far = []; waiting = None; to_put = [] };
}

-- the state before any step: nothing is issued, no tag is out, every channel is empty, and no
-- processor has reported
abbrev pub first_state : Load → State
first_state l = record {
  tiles = map (first_tile (dims_of l.shape) l.tags) l.scripts;
  around = record {
    rings = replicate (channel_count l.shape) (empty_ring l.depth);
    words = l.opening ++ 0 ∷ [];
  };
}

-- the state after a list of attempts from a load
abbrev pub after : Load → List Step → State
after l attempts = after_from (design_of l) (first_state l) attempts

-- the processors' records
abbrev pub records_of : State → List ProcessorRecord
records_of s = map (λ t. t.processor.operations) s.tiles

-- what a state shows: what is issued and answered by processor, the entries by bank, and the memory
-- by address
abbrev pub show : ℕ → State → Observed
show words s = record {
  issued = map (λ b. b.issued) (records_of s);
  answers = map (λ b. b.answers) (records_of s);
  entries = map (λ t. t.bank.entries) s.tiles;
  memory = take words s.around.words;
}

-- the run of a list of attempts from a load
abbrev pub run_of : Load → List Step → Run
run_of l attempts = λ k. show (length l.opening) (after l (take k attempts))

-- the attempts of these choices by an agent
abbrev pub attempts_of : ℕ → List Choice → List Step
attempts_of agent choices = map (λ c. record { agent = agent; choice = c }) choices

-- the attempts of a round at one tile, of so many ports of its router: each choice of each agent
-- once
abbrev pub round_at : ℕ → ℕ → List Step
round_at ports t =
    attempts_of (agent_number t Processor) processor_choices
    ++ attempts_of (agent_number t Router) (router_choices ports)
    ++ attempts_of (agent_number t Bank) bank_choices

-- a round: the agents in order (this project's own format)
abbrev pub round : Shape → List Step
round s = flat_map (round_at (port_count (dims_of s))) (range_with_len 0 (tiles_of s))
