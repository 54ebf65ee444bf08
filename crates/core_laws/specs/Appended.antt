-- A machine that is handed a further line for the script of a processor.
use Rattle.std.specs.Prelude.{◌≡◌, ℕ, zero, suc, ◌+◌, ◌*◌, ◌<◌, ◌≤◌, true, false, List, [], ◌∷◌, ◌++◌, Some, length}
use Rattle.std.specs.Prelude.{slice_get, slice_set}
use Rattle.torus.specs.declared.step.Step.{Step}
use Rattle.torus.specs.declared.step.Choice.TheVariants.{Done}
use Rattle.script_lines.specs.declared.line.Line.{Line}
use Rattle.script_lines.specs.Lines.{operations_of, operation_count, total_count, script_of, mentions_last, IsAcceptedLine}
use Rattle.one_order.specs.ProcessorTable.{processor_with}
use Rattle.core_laws.specs.Agent.TheVariants.{Processor}
use Rattle.core_laws.specs.Tile.{TileState}
use Rattle.core_laws.specs.Agents.{agent_number}
use Rattle.core_laws.specs.Core.{Load, State}
use Rattle.core_laws.specs.Machine.{Core}

-- the list with the item at a place changed by f; past the end nothing changes
abbrev pub changed_at : {A : Type 0} → (A → A) → List A → ℕ → List A
changed_at f [] p = []
changed_at f (x ∷ xs) zero = f x ∷ xs
changed_at f (x ∷ xs) (suc p) = x ∷ changed_at f xs p

-- the tile with the line given to its processor's follower
abbrev pub tile_with : Line → TileState → TileState
tile_with line t = record {
  processor = processor_with line t.processor;
  router = t.router;
  bank = t.bank;
}

-- the state with the line given to the processor of tile p
abbrev pub state_with : State → ℕ → Line → State
state_with s p line = record { tiles = changed_at (tile_with line) s.tiles p; around = s.around }

-- the machine with the line given to the processor of tile p: its script allows the line's
-- operations more, and a move is at most one of 241 for each of them, as at the load
abbrev pub appended : Core → ℕ → Line → Core
appended c p line = record {
  shape = c.shape;
  depth = c.depth;
  tags = c.tags;
  opening = c.opening;
  allowed = changed_at (λ n. n + operations_of line) c.allowed p;
  state = state_with c.state p line;
  book = c.book;
  moves_left = c.moves_left + 241 * operations_of line;
}

-- the load with the line at the end of the script of processor p
abbrev pub load_with : Load → ℕ → Line → Load
load_with l p line = record {
  shape = l.shape;
  depth = l.depth;
  tags = l.tags;
  opening = l.opening;
  scripts = slice_set l.scripts p (script_of l.scripts p ++ line ∷ []);
}

-- the processor of tile p is there, and hasn't reported that its script is finished
pub record IsUnreported (s : State) (p : ℕ) : Type 0 where
  pub tile : TileState
  pub there : slice_get s.tiles p ≡ Some tile
  pub unreported : tile.processor.reported ≡ false

-- the line may come at the end of the script of processor p: it is accepted by itself, a `last` has
-- an operation before it, and there are no more operations than a script and all scripts together
-- may have
pub record MayFollow (l : Load) (p : ℕ) (line : Line) : Type 0 where
  pub there : p < length l.scripts
  pub accepted : IsAcceptedLine (length l.opening) line
  pub last : mentions_last line ≡ true → 0 < operation_count (script_of l.scripts p)
  pub few : operation_count (script_of l.scripts p) + operations_of line ≤ 4096
  pub few_in_all : total_count l.scripts + operations_of line ≤ 65536

-- a step is no report of processor p
abbrev pub IsNoReport : ℕ → Step → Type 0
IsNoReport p attempt =
    attempt.agent ≡ agent_number p Processor → attempt.choice ≡ Done → ⊥
