-- What is loaded, and what is accepted of it.
use Rattle.std.specs.Prelude.{◌≡◌, ℕ, ◌<◌, ◌≤◌, ◌^◌, List, length, slice_index}
use Rattle.torus.specs.Shape.{Shape, tiles_of, IsAccepted as IsAcceptedShape}
use Rattle.script_lines.specs.declared.line.Line.{Line}
use Rattle.script_lines.specs.Machine.{MachineSpec}
use Rattle.script_lines.specs.Lines.{ScriptsSpec, AreAcceptedScripts}

-- what is loaded: the torus, the flits that a channel holds, the tags of a processor, the opening
-- words by address, and each processor's script (this project's own format)
pub record Load : Type 0 where
  pub shape : Shape
  pub depth : ℕ
  pub tags : ℕ
  pub opening : List ℕ
  pub scripts : List (List Line)

-- what is accepted of a load: the limits of the machine's text, a script for each processor, and
-- the scripts as their reader accepts them (this project's own format)
pub record IsAcceptedLoad (l : Load) : Type 0 where
  pub shape : IsAcceptedShape l.shape
  pub depth : (1 ≤ l.depth) × (l.depth ≤ 8)
  pub tags : (1 ≤ l.tags) × (l.tags ≤ 16)
  pub size : (1 ≤ length l.opening) × (length l.opening ≤ 65536)
  pub words : (a : ℕ) → a < length l.opening → slice_index l.opening a < 2 ^ 64
  pub processors : length l.scripts ≡ tiles_of l.shape
  pub scripts : AreAcceptedScripts (record { words = length l.opening; lists = l.scripts })

-- the load of a machine text and a script text (this project's own format)
abbrev pub load_of : MachineSpec → ScriptsSpec → Load
load_of m s = record {
  shape = m.shape;
  depth = m.depth;
  tags = m.tags;
  opening = m.opening;
  scripts = s.lists;
}
