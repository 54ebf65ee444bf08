-- Scripts as lists of lines: the operations that they issue, and which are accepted.
use Rattle.std.specs.Prelude.{◌≡◌, ℕ, ◌+◌, ◌^◌, ◌<◌, ◌≤◌, ◌&&◌, ◌||◌, ◌==◌, Bool, true, false, List, [], length, take, sum_by}
use Rattle.std.specs.Prelude.{slice_get, Some}
use Rattle.std.specs.List.{slice_index_or}
use Rattle.torus.specs.Shape.{tiles_of}
use Rattle.script_lines.specs.declared.line.Line.{Line}
use Rattle.script_lines.specs.declared.line.Line.TheVariants.{Load, Store, Swap, Cas, Add, And, Or, Xor, Max, Min, Fence}
use Rattle.script_lines.specs.declared.line.Line.TheVariants.{Spin}
use Rattle.script_lines.specs.declared.line.Value.{Value as Operand}
use Rattle.script_lines.specs.declared.line.Value.TheVariants.{Number, Last}
use Rattle.script_lines.specs.Machine.{MachineSpec}

-- the scripts of all processors by tile, and the number of words of the memory that they were read
-- for
pub record ScriptsSpec : Type 0 where
  pub words : ℕ
  pub lists : List (List Line)

-- the most operations that a line issues: one, none for a fence, the greatest number of its loads
-- for a spin
abbrev pub operations_of : Line → ℕ
operations_of (Load a) = 1
operations_of (Store a v) = 1
operations_of (Swap a v) = 1
operations_of (Cas a e n) = 1
operations_of (Add a v) = 1
operations_of (And a v) = 1
operations_of (Or a v) = 1
operations_of (Xor a v) = 1
operations_of (Max a v) = 1
operations_of (Min a v) = 1
operations_of Fence = 0
operations_of (Spin a v m) = m

-- the most operations that a script issues
abbrev pub operation_count : List Line → ℕ
operation_count lines = sum_by operations_of lines

-- the most operations that all scripts issue together
abbrev pub total_count : List (List Line) → ℕ
total_count lists = sum_by operation_count lists

abbrev pub is_last : Operand → Bool
is_last (Number n) = false
is_last Last = true

-- whether a line has a value `last`
abbrev pub mentions_last : Line → Bool
mentions_last (Load a) = false
mentions_last (Store a v) = is_last v
mentions_last (Swap a v) = is_last v
mentions_last (Cas a e n) = is_last e || is_last n
mentions_last (Add a v) = is_last v
mentions_last (And a v) = is_last v
mentions_last (Or a v) = is_last v
mentions_last (Xor a v) = is_last v
mentions_last (Max a v) = is_last v
mentions_last (Min a v) = is_last v
mentions_last Fence = false
mentions_last (Spin a v m) = false

-- the script of a processor; one that is not there has none
abbrev pub script_of : List (List Line) → ℕ → List Line
script_of lists p = slice_index_or lists p []

-- the most operations of a script and of all scripts, with one more line
abbrev pub script_with : List (List Line) → ℕ → Line → ℕ
script_with lists p line = operation_count (script_of lists p) + operations_of line

abbrev pub scripts_with : List (List Line) → Line → ℕ
scripts_with lists line = total_count lists + operations_of line

-- a value is a word of 64 bits
abbrev pub IsWord : Operand → Type 0
IsWord (Number n) = n < 2 ^ 64
IsWord Last = Unit {0}

-- the address of a line is below the number of words, its values are words, and a spin has 1 to
-- 4096 loads
abbrev pub IsAcceptedLine : ℕ → Line → Type 0
IsAcceptedLine words (Load a) = a < words
IsAcceptedLine words (Store a v) = (a < words) × IsWord v
IsAcceptedLine words (Swap a v) = (a < words) × IsWord v
IsAcceptedLine words (Cas a e n) = (a < words) × IsWord e × IsWord n
IsAcceptedLine words (Add a v) = (a < words) × IsWord v
IsAcceptedLine words (And a v) = (a < words) × IsWord v
IsAcceptedLine words (Or a v) = (a < words) × IsWord v
IsAcceptedLine words (Xor a v) = (a < words) × IsWord v
IsAcceptedLine words (Max a v) = (a < words) × IsWord v
IsAcceptedLine words (Min a v) = (a < words) × IsWord v
IsAcceptedLine words Fence = Unit {0}
IsAcceptedLine words (Spin a v m) = (a < words) × (v < 2 ^ 64) × (1 ≤ m) × (m ≤ 4096)

-- an accepted script: each line is accepted, a `last` has an operation before it, and the
-- operations are at most 4096
pub record IsAcceptedScript (words : ℕ) (lines : List Line) : Type 0 where
  pub each : (i : ℕ) (line : Line) → slice_get lines i ≡ Some line → IsAcceptedLine words line
  pub lasts : (i : ℕ) (line : Line) → slice_get lines i ≡ Some line → mentions_last line ≡ true
      → 0 < operation_count (take i lines)
  pub count : operation_count lines ≤ 4096

-- accepted scripts: each is, and the operations are at most 65536 in all
pub record AreAcceptedScripts (s : ScriptsSpec) : Type 0 where
  pub tiles : length s.lists ≤ 64
  pub each : (p : ℕ) → IsAcceptedScript s.words (script_of s.lists p)
  pub total : total_count s.lists ≤ 65536

-- scripts were read for a machine of as many tiles and as many words
pub record Fit (s : ScriptsSpec) (machine : MachineSpec) : Type 0 where
  pub tiles : length s.lists ≡ tiles_of machine.shape
  pub words : s.words ≡ length machine.opening

-- whether they fit
abbrev pub fits : ScriptsSpec → MachineSpec → Bool
fits s machine = (length s.lists == tiles_of machine.shape) && (s.words == length machine.opening)
