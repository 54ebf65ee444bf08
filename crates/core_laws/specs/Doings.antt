-- What is done to a machine: attempts at steps, and further lines for scripts, in any order.
use Rattle.std.specs.Prelude.{ℕ, List, [], ◌∷◌}
use Rattle.torus.specs.declared.step.Step.{Step}
use Rattle.script_lines.specs.declared.line.Line.{Line}
use Rattle.core_laws.specs.Core.{Load, step}
use Rattle.core_laws.specs.Machine.{Core, built_to, core_next}
use Rattle.core_laws.specs.Enabled.{ahead_if_moved}
use Rattle.core_laws.specs.Appended.{appended, load_with, IsUnreported, MayFollow}

-- an attempt at a step, or a further line at the end of a processor's script
pub data Doing : Type 0 where
  Tries : (attempt : Step) → Doing
  Appends : (p : ℕ) (line : Line) → Doing

-- the machine after these
abbrev pub core_done : Core → List Doing → Core
core_done c [] = c
core_done c (Tries attempt ∷ doings) = core_done (core_next c attempt) doings
core_done c (Appends p line ∷ doings) = core_done (appended c p line) doings

-- the load with all lines at the ends of their scripts
abbrev pub load_grown : Load → List Doing → Load
load_grown l [] = l
load_grown l (Tries attempt ∷ doings) = load_grown l doings
load_grown l (Appends p line ∷ doings) = load_grown (load_with l p line) doings

-- the attempts that are enabled where they come
abbrev pub moves_done : Core → List Doing → List Step
moves_done c [] = []
moves_done c (Tries attempt ∷ doings) =
    ahead_if_moved attempt (step (built_to c) c.state attempt)
    (moves_done (core_next c attempt) doings)
moves_done c (Appends p line ∷ doings) = moves_done (appended c p line) doings

-- each line may follow where it comes: its processor hasn't reported that its script is finished,
-- and the scripts keep to their limits
abbrev pub MayBeDone : Load → Core → List Doing → Type 0
MayBeDone l c [] = Unit {0}
MayBeDone l c (Tries attempt ∷ doings) = MayBeDone l (core_next c attempt) doings
MayBeDone l c (Appends p line ∷ doings) =
    IsUnreported c.state p × MayFollow l p line
    × MayBeDone (load_with l p line) (appended c p line) doings
