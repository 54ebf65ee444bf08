-- A machine of which all reports are taken back.
use Rattle.std.specs.Prelude.{ℕ, ◌+◌, Bool, true, false, if◌then◌else◌, List, [], ◌∷◌, map, sum_by, slice_set}
use Rattle.torus.specs.declared.step.Step.{Step}
use Rattle.torus.specs.declared.step.Choice.{Choice}
use Rattle.torus.specs.declared.step.Choice.TheVariants.{Done, Look}
use Rattle.flit_buffer.specs.Surroundings.{Surroundings}
use Rattle.core_laws.specs.Tile.{Design, TileState}
use Rattle.core_laws.specs.Core.{State}
use Rattle.core_laws.specs.Machine.{Core, built_to}

-- the tile as if its processor had neither reported nor seen that all have
abbrev pub tile_open : TileState → TileState
tile_open t = record {
  processor = record {
    operations = t.processor.operations;
    to_put = t.processor.to_put;
    so_far = t.processor.so_far;
    reported = false;
    seen = false;
  };
  router = t.router;
  bank = t.bank;
}

-- the surroundings with nobody counted in the done word, which stands behind so many words
abbrev pub around_open : ℕ → Surroundings → Surroundings
around_open words around = record { rings = around.rings; words = slice_set around.words words 0 }

-- the state as if nobody had reported or seen
abbrev pub state_open : Design → State → State
state_open d s = record { tiles = map tile_open s.tiles; around = around_open d.words s.around }

-- 1 for a mark that is set
abbrev pub mark : Bool → ℕ
mark true = 1
mark false = 0

-- the marks of a tile that are set: that its processor has reported, and that it has seen that all
-- have
abbrev pub marks : TileState → ℕ
marks t = mark t.processor.reported + mark t.processor.seen

-- those of all tiles: each is a move that was made
abbrev pub reports_in : State → ℕ
reports_in s = sum_by marks s.tiles

-- the machine as if nobody had reported or seen: these moves are left to it again
abbrev pub reopened : Core → Core
reopened c = record {
  shape = c.shape;
  depth = c.depth;
  tags = c.tags;
  opening = c.opening;
  allowed = c.allowed;
  state = state_open (built_to c) c.state;
  book = c.book;
  moves_left = c.moves_left + reports_in c.state;
}

-- a processor's report that its script is finished, or its look whether all are
abbrev pub is_report : Choice → Bool
is_report Done = true
is_report Look = true
is_report c = false

-- the steps that are no reports
abbrev pub without_reports : List Step → List Step
without_reports [] = []
without_reports (x ∷ steps) =
    if is_report x.choice then without_reports steps else x ∷ without_reports steps
