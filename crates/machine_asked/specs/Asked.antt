-- A machine that is asked for operations: which of its scripts have spins, which index an operation has
-- that is asked, and what its fair rounds make.
use Rattle.std.specs.Prelude.{◌≡◌, ℕ, zero, suc, ◌<◌, ◌≤◌, ◌==◌, ◌&&◌, ◌||◌, Bool, true, false, not, List, [], ◌++◌, map, take, length}
use Rattle.std.specs.Prelude.{Option, Some, None, is_some, option_and_then, slice_get, slice_set, slice_index_or}
use Rattle.std.specs.Prelude.{if◌then◌else◌}
use Rattle.std.specs.List.{find, list_any}
use Rattle.torus.specs.declared.step.Step.{Step}
use Rattle.script_lines.specs.declared.line.Line.{Line}
use Rattle.script_lines.specs.declared.line.Line.TheVariants as line
use Rattle.script_lines.specs.Lines.{script_of}
use Rattle.one_order.specs.declared.answer.Answer.{Answer}
use Rattle.one_order.specs.Observed.{Run}
use Rattle.one_order.specs.Scripts.{Invocation, IsOf}
use Rattle.machine_parts.specs.AbstractScripts.{AreInvocationsOf}
use Rattle.machine_parts.specs.Core.{Load, run_of}
use Rattle.machine_parts.specs.Machine.{Core, IsAfter}
use Rattle.machine_parts.specs.Machine.{all_finished, core_after}
use Rattle.machine_parts.specs.Machine.{shown}
use Rattle.machine_core.specs.Rounds.{rounds_of}
use Rattle.machine_core.specs.Guarded.{guarded_round}
use Rattle.machine_core.specs.Oldest.{oldest}
use Rattle.fair_rounds.specs.Guard.{Guarding, holds, guard_after}

-- a line is a spin: nobody can tell beforehand how many loads it makes
abbrev pub is_spin : Line → Bool
is_spin (line.Spin a v m) = true
is_spin first = false

-- a line is one operation, and so neither a fence nor a spin
abbrev pub is_operation : Line → Bool
is_operation line.Fence = false
is_operation (line.Spin a v m) = false
is_operation first = true

-- a script has a spin
abbrev pub has_spin : List Line → Bool
has_spin lines = list_any is_spin lines

-- a machine, of each of its scripts whether it has a spin, and the guard of its fair rounds (this
-- project's own format)
pub record Asked : Type 0 where
  pub core : Core
  pub spins : List Bool
  pub guard : Guarding

-- the machine stands where some steps lead from an accepted load, whose scripts have these spins
pub record IsAsked (v : Asked) : Type 0 where
  pub load : Load
  pub steps : List Step
  pub after : IsAfter load v.core steps
  pub spins : v.spins ≡ map has_spin load.scripts

-- in another state, with the same scripts and guard
abbrev pub asked_in : Asked → Core → Asked
asked_in v c = record { core = c; spins = v.spins; guard = v.guard }

-- the attempts of its next fair round: none begins an operation where the guard holds
abbrev pub asked_attempts : Asked → List Step
asked_attempts v = guarded_round oldest (holds v.guard v.core) v.core

-- once it is made
abbrev pub fair_made : Asked → Asked
fair_made v = record {
  core = core_after v.core (asked_attempts v);
  spins = v.spins;
  guard = guard_after v.guard v.core;
}

-- once so many are made, and the attempts of these, one after the other
abbrev pub fair_rounds_made : Asked → ℕ → Asked
fair_rounds_made v zero = v
fair_rounds_made v (suc k) = fair_made (fair_rounds_made v k)

abbrev pub fair_rounds_of : Asked → ℕ → List Step
fair_rounds_of v zero = []
fair_rounds_of v (suc k) = fair_rounds_of v k ++ asked_attempts (fair_rounds_made v k)

-- so many fair rounds are the fewest that finish every script; where these are more than the most that
-- are allowed, they are that many
pub record AreFewestFair (v : Asked) (most k : ℕ) : Type 0 where
  pub allowed : k ≤ most
  pub unfinished : (j : ℕ) → j < k → all_finished (fair_rounds_made v j).core.state ≡ false
  pub finished : k < most → all_finished (fair_rounds_made v k).core.state ≡ true

-- which scripts have spins once processor p is handed a line
abbrev pub spins_with : List Bool → ℕ → Line → List Bool
spins_with spins p line = slice_set spins p (slice_index_or spins p false || is_spin line)

-- whether the script of processor p has a spin; one that isn't there has none
abbrev pub is_behind_spin : Asked → ℕ → Bool
is_behind_spin v p = slice_index_or v.spins p false

-- the index, among the operations of processor p, that a line's operation has which is put behind
-- what the script has: as many as the script makes, where that is known. A fence or a spin has none
abbrev pub index_asked : Asked → ℕ → Line → Option ℕ
index_asked v p line =
    if is_operation line && not (is_behind_spin v p) then slice_get v.core.allowed p else None

-- the operation of this index that processor p has issued in the first n steps of a run, if it has,
-- is that of the line, as its script says
pub record IsIssuedAs (run : Run) (n p : ℕ) (line : Line) (index : ℕ) : Type 0 where
  pub ops : List Invocation
  pub are : AreInvocationsOf run n p ops
  pub is : (o : Invocation) → slice_get ops index ≡ Some o → IsOf line (take index ops) o

-- So it is in whatever a machine comes to: wherever steps lead from a load whose script of p begins
-- with that of this load.
abbrev pub IsNumberedLine : Load → ℕ → Line → ℕ → Type 0
IsNumberedLine l p line index =
    (grown : Load) (more : List Line) (c : Core) (steps : List Step) → p < length grown.scripts
    → script_of grown.scripts p ≡ script_of l.scripts p ++ more → IsAfter grown c steps
    → IsIssuedAs (run_of grown steps) (length steps) p line index

-- the answer to the operation of this index of processor p, if it has one
abbrev pub answer_to : Core → ℕ → ℕ → Option Answer
answer_to c p index =
    option_and_then (find (λ a. a.index == index)) (slice_get (shown c).answers p)

-- nobody has to wait for it: it is answered, or every script is finished
abbrev pub is_settled : Core → ℕ → ℕ → Bool
is_settled c p index = is_some (answer_to c p index) || all_finished c.state

-- the least number of rounds after which nobody has to wait for the operation (this project's own
-- format)
pub record NeedsToWait (c : Core) (p index k : ℕ) : Type 0 where
  pub settled : is_settled (core_after c (rounds_of c.shape k)) p index ≡ true
  pub least : (j : ℕ) → j < k → is_settled (core_after c (rounds_of c.shape j)) p index ≡ false
