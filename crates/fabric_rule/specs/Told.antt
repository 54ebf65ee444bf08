-- What one word of the row tells of the longest run, by a run that is its beginning.
use Rattle.std.specs.Prelude.{◌≡◌, ◌≢◌, ℕ, ◌<◌, Bool, if◌then◌else◌, List, [], ◌∷◌, ◌++◌, length, slice_index, Some}
use Rattle.torus.specs.declared.step.Step.{Step}
use Rattle.flit_buffer.specs.Words.{word_of, performed}
use Rattle.flit_buffer.specs.declared.word_op.WordOp.{WordOp}
use Rattle.tile.specs.Agents.{TilePlace}
use Rattle.core_laws.specs.Core.{Load}
use Rattle.fabric_rule.specs.Known.{tile_of, known, enabled, ShowsBeginning, moves, left_by, Suits}

-- no attempt of tile t among these
abbrev pub Away : ℕ → List Step → Type 0
Away t [] = Unit {0}
Away t (attempt ∷ more) = (tile_of attempt ≢ t) × Away t more

-- the run with the attempt behind it, where it moves
abbrev pub grown : Bool → List Step → Step → List Step
grown moved run attempt = if moved then run ++ attempt ∷ [] else run

-- the attempt, where it moves
abbrev pub made : Bool → Step → List Step
made moved attempt = if moved then attempt ∷ [] else []

-- What the operation of an attempt tells by the word found in a row that shows a run: the word is
-- one of the row; the attempt is enabled after the run exactly where the tile moves by the word;
-- the row after the operation shows the run with the attempt, if it moved; so stands the tile; and
-- the word found suits the attempt (Lynch and Vaandrager, 1995: forward simulation).
pub record Tells (load : Load) (row : List ℕ) (run : List Step) (attempt : Step) (p : TilePlace)
    (op : WordOp) : Type 0 where
  pub within : word_of op < length row
  pub enabled_there : enabled load run attempt ≡ moves p attempt (slice_index row (word_of op))
  pub shows : ShowsBeginning load (performed op row)
      (grown (moves p attempt (slice_index row (word_of op))) run attempt)
  pub tile : known load (grown (moves p attempt (slice_index row (word_of op))) run attempt)
      (tile_of attempt)
      ≡ Some (left_by p attempt (slice_index row (word_of op)))
  pub suits : Suits load p attempt (slice_index row (word_of op))
