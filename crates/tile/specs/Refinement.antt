-- A choice of one of a tile's agents, read at the tile's ports over one word of a row that shows
-- the surroundings, does there what it does to the surroundings.
use Rattle.std.specs.Prelude.{◌≡◌, ℕ, ◌<◌, List, length, slice_index, Some, None, MatchOption}
use Rattle.torus.specs.Shape.{tiles_of}
use Rattle.torus.specs.declared.step.Choice.{Choice}
use Rattle.channel_number.specs.Order.{channel_count}
use Rattle.flit_buffer.specs.Words.{word_of, performed}
use Rattle.flit_buffer.specs.Surroundings.{Surroundings, AreRings, ShowsAll, IsPossible, ports_of}
use Rattle.flit_buffer.specs.declared.want.Want.{Want}
use Rattle.flit_buffer.specs.declared.word_op.WordOp.{WordOp}
use Rattle.tile.specs.declared.agent.Agent.{Agent}
use Rattle.tile.specs.declared.agent.Agent.TheVariants.{Processor, Router, Bank}
use Rattle.tile.specs.Tile.{Design, TileState, tile_step}
use Rattle.tile.specs.Agents.{TilePlace, wiring_of, tile_wants, tile_placed, agent_op, agent_absorbed}

-- the surroundings have the channels of the torus, and each is one of the design's depth (Dally and
-- Towles, chapter 13)
pub record IsSurrounded (d : Design) (around : Surroundings) : Type 0 where
  pub count : length around.rings ≡ channel_count d.shape
  pub rings : AreRings d.depth around

-- what a choice of an agent wants is there, and a flit that it would put isn't 0 (this project's
-- own format)
abbrev pub IsPossibleChoice : Design → ℕ → TileState → Surroundings → Agent → Choice → Type 0
IsPossibleChoice d t tile around agent choice =
    (want : Want) → tile_wants d t tile agent choice ≡ Some want
    → IsPossible around (wiring_of d.shape t agent) want

module _ (d : Design) (t : ℕ) (tile : TileState) (around : Surroundings) (row : List ℕ)
    (agent : Agent) (choice : Choice) where
  -- a choice that isn't enabled: by the word found the tile doesn't move, and the row stays
  pub record TileStays (op : WordOp) : Type 0 where
    pub idle : agent_absorbed (tile_placed d t tile around) agent choice
        (slice_index row (word_of op)) ≡ None
    pub same : performed op row ≡ row

  -- an enabled choice: by the word found the tile becomes what the step makes of it, and the row
  -- shows the surroundings after the step
  pub record TileMoves (op : WordOp) (next : TileState) (left : Surroundings) : Type 0 where
    pub moved : agent_absorbed (tile_placed d t tile around) agent choice
        (slice_index row (word_of op))
        ≡ Some (tile_placed d t next left)
    pub shows : ShowsAll (performed op row) d.depth left

  -- a choice without an operation isn't enabled; one with an operation moves exactly when it is
  -- (Lynch and Vaandrager, 1995: forward simulation)
  abbrev pub TileRefines : Type 0
  TileRefines =
      MatchOption (agent_op (tile_placed d t tile around) agent choice)
      (tile_step d t tile around agent choice ≡ None)
      (λ op. (word_of op < length row) × MatchOption (tile_step d t tile around agent choice)
      (TileStays op) (λ next. TileMoves op next.0 next.1))

-- the tile is the same but for one of its agents
abbrev pub OnlyAgent : Agent → TilePlace → TilePlace → Type 0
OnlyAgent Processor p q =
    (q.design ≡ p.design) × (q.tile ≡ p.tile) × (q.router ≡ p.router) × (q.bank ≡ p.bank)
OnlyAgent Router p q = (q.design ≡ p.design) × (q.tile ≡ p.tile) × (q.processor ≡ p.processor)
    × (q.bank ≡ p.bank)
OnlyAgent Bank p q = (q.design ≡ p.design) × (q.tile ≡ p.tile) × (q.processor ≡ p.processor)
    × (q.router ≡ p.router)

-- what a step of agent a of tile t leaves: the surroundings have their channels and as many words,
-- and the ports of every other agent of every tile are as they were (this project's own format)
pub record KeepsOthers (d : Design) (t : ℕ) (a : Agent) (around left : Surroundings) : Type 0 where
  pub surrounded : IsSurrounded d left
  pub words : length left.words ≡ length around.words
  pub others : (u : ℕ) (b : Agent) → u < tiles_of d.shape → ((u ≡ t) × (b ≡ a) → ⊥)
      → ports_of d.depth left (wiring_of d.shape u b)
      ≡ ports_of d.depth around (wiring_of d.shape u b)
