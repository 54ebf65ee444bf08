-- A further line for a script, as C sees it.
use Rattle.std.specs.Prelude.{◌≡◌, ◌⊎◌, ◌||◌, ◌==◌, ℕ, nat_le, Bool, true, false, List, [], ◌∷◌}
use Rattle.std.specs.Prelude.{map, min, Option, Some, None}
use Rattle.std.specs.Prelude.{slice_get, if◌then◌else◌}
use Rattle.std.specs.Bool.{MatchBool}
use Rattle.torus.specs.declared.fault.Fault.{Fault}
use Rattle.torus.specs.declared.fault.Fault.TheVariants as fault
use Rattle.torus.specs.declared.step.Step.{Step}
use Rattle.script_lines.specs.declared.line.Line.{Line}
use Rattle.script_lines.specs.declared.line.Line.TheVariants as line
use Rattle.script_lines.specs.declared.line.Value.{Value}
use Rattle.script_lines.specs.declared.line.Value.TheVariants.{Number, Last}
use Rattle.core_laws.specs.Machine.{IsAfter}
use Rattle.machine_asked.specs.Asked.{Asked, IsNumberedLine, has_spin, is_behind_spin, spins_with}
use Rattle.core_laws.specs.Core.{Load}
use Rattle.core_laws.specs.Appended.{load_with}
use Rattle.core_laws.specs.Handed.{handed, moves_kept, refused}
use Rattle.torusmem_c.specs.declared.outcome.Outcome.{Outcome}
use Rattle.torusmem_c.specs.declared.outcome.Code.{Code}
use Rattle.torusmem_c.specs.declared.outcome.Code.TheVariants as code
use Rattle.torusmem_c.specs.Outcome.{c_outcome}

-- a value: a number, or `last`
abbrev pub c_value : Bool → ℕ → Value
c_value true number = Last
c_value false number = Number number

-- whether the first value is `last`, by the number that says so of both: 1 of the first, 2 of the
-- second, 3 of both
abbrev pub is_first_last : ℕ → Bool
is_first_last lasts = (lasts == 1) || (lasts == 3)

abbrev pub is_second_last : ℕ → Bool
is_second_last lasts = (lasts == 2) || (lasts == 3)

-- the lines of an address and two values by their numbers, from 0: the operations, a fence, and a
-- spin for a number, with so many loads; no spin has more than 4096
abbrev pub lines : ℕ → Value → Value → ℕ → ℕ → List Line
lines address one two sought loads =
    line.Load address
    ∷ line.Store address one
    ∷ line.Swap address one
    ∷ line.Cas address one two
    ∷ line.Add address one
    ∷ line.And address one
    ∷ line.Or address one
    ∷ line.Xor address one
    ∷ line.Max address one
    ∷ line.Min address one
    ∷ line.Fence
    ∷ line.Spin address sought (min loads 4097)
    ∷ []

-- the line that has a number
abbrev pub numbered_line : ℕ → ℕ → Value → Value → ℕ → ℕ → Option Line
numbered_line number address one two sought loads = slice_get (lines address one two sought loads) number

-- the line that has a number, with two numbers of which `lasts` says whether they stand for `last`
abbrev pub line_said : ℕ → ℕ → ℕ → ℕ → ℕ → Option Line
line_said number address first second lasts =
    numbered_line number address (c_value (is_first_last lasts) first)
    (c_value (is_second_last lasts) second) first second

-- the line that a call from C names; where `lasts` has another bit there is none
abbrev pub line_named : ℕ → ℕ → ℕ → ℕ → ℕ → Option Line
line_named number address first second lasts =
    if nat_le lasts 3 then line_said number address first second lasts else None

-- the machine takes a line for a processor: it is the one that is handed the line, and stands where
-- its moves lead from the load with the line
pub record IsHanded (p : ℕ) (line : Line) (old new : Asked) : Type 0 where
  pub taken : refused old.core p line ≡ None
  pub state : new.core ≡ handed old.core p line
  pub spins : new.spins ≡ spins_with old.spins p line
  pub guard : new.guard ≡ old.guard
  pub law : (l : Load) (steps : List Step) → IsAfter l old.core steps
      → IsAfter (load_with l p line) new.core (moves_kept l old.core p steps)

abbrev pub AppendsLine : ℕ → Line → Asked → Asked → Outcome → Type 0
AppendsLine p line old new r = IsHanded p line old new × (r ≡ c_outcome code.Done 0)

-- it refuses the line for this reason, or there is no memory, and stays as it was
pub record RefusesAppending (p : ℕ) (line : Line) (old new : Asked) (r : Outcome) : Type 0 where
  pub reason : Fault
  pub why : (refused old.core p line ≡ Some reason)
      ⊎ ((refused old.core p line ≡ None) × (reason ≡ fault.Memory))
  pub same : new ≡ old
  pub answer : r ≡ c_outcome (code.Fault reason) 0

-- it takes the line that is named, or refuses it; where none is, nothing changes
abbrev pub Appends : ℕ → Option Line → Asked → Asked → Outcome → Type 0
Appends p None old new r = (new ≡ old) × (r ≡ c_outcome code.NoSuch 0)
Appends p (Some line) old new r = AppendsLine p line old new r ⊎ RefusesAppending p line old new r

-- the operation that has a number: no fence and no spin
abbrev pub c_operation : ℕ → ℕ → ℕ → ℕ → ℕ → Option Line
c_operation number address first second lasts =
    if nat_le number 9 then line_named number address first second lasts else None

-- the machine takes an operation, and answers its index: as many as the script of its processor can
-- make. Wherever steps and further lines lead from there, the operation that the processor issues
-- under it is the one that was asked
pub record Numbers (p : ℕ) (line : Line) (old new : Asked) (r : Outcome) : Type 0 where
  pub handed : IsHanded p line old new
  pub index : ℕ
  pub many : slice_get old.core.allowed p ≡ Some index
  pub numbered : (l : Load) (steps : List Step) → IsAfter l old.core steps
      → old.spins ≡ map has_spin l.scripts → IsNumberedLine (load_with l p line) p line index
  pub answer : r ≡ c_outcome code.Done index

-- nothing changes, and this is told
abbrev pub KeepsMachine : Code → Asked → Asked → Outcome → Type 0
KeepsMachine why old new r = (new ≡ old) × (r ≡ c_outcome why 0)

-- it takes the operation that is named, and answers its index, or refuses it. Behind a spin, where
-- no index is known, and where none is named nothing changes
abbrev pub AsksAppend : ℕ → Option Line → Asked → Asked → Outcome → Type 0
AsksAppend p None old new r = KeepsMachine code.NoSuch old new r
AsksAppend p (Some line) old new r = MatchBool (is_behind_spin old p) (KeepsMachine code.BehindSpin old new r)
    (Numbers p line old new r ⊎ RefusesAppending p line old new r)
