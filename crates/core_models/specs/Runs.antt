-- The memory trace of a run, and scripts whose lines are kept apart by fences.
use Rattle.std.specs.Prelude.{◌≡◌, ◌⊎◌, ℕ, suc, List, Some, length, slice_get}
use Rattle.torus.specs.declared.step.Step.{Step}
use Rattle.script_lines.specs.declared.line.Line.{Line}
use Rattle.script_lines.specs.declared.line.Line.TheVariants as line
use Rattle.memory_models.specs.declared.kinds.Operation.{Operation}
use Rattle.one_order.specs.declared.ordered.Ordered.{Ordered}
use Rattle.one_order.specs.Observed.{list_at}
use Rattle.core_laws.specs.Core.{Load, run_of}
use Rattle.core_models.specs.Accesses.{Access, access_by, accesses_shown}
use Rattle.core_models.specs.Traces.{access_at, IsTraceOf, IsLastWriteInTurn}
use Rattle.core_models.specs.Values.{RepliesWordOf}

-- the accesses of the run of a list of steps from a load, which has one order with these rows
abbrev pub accesses_of_run : Load → List Step → List Ordered → List Access
accesses_of_run l steps rows =
    accesses_shown (length l.opening) (run_of l steps (length steps)) rows l.scripts

-- the memory trace of that run
abbrev pub IsTraceOfRun : Load → List Step → List Ordered → List Operation → List ℕ → Type 0
IsTraceOfRun l steps rows = IsTraceOf (accesses_of_run l steps rows)

-- the operation of a row is the access of a place
abbrev pub IsAccessOfRow : Load → List Step → List Ordered → Ordered → ℕ → Type 0
IsAccessOfRow l steps rows row x = slice_get (accesses_of_run l steps rows) x
    ≡ Some (access_by (length l.opening) (run_of l steps (length steps)) rows row)

-- in this order one memory gives the replies: each operation that took effect, atomics too, replied
-- what is due where it finds the word that the last write on it before left (Lamport 1979)
abbrev pub RepliesInTurn : Load → List Step → List Ordered → (ℕ → ℕ) → Type 0
RepliesInTurn l steps rows turn = (x k : ℕ) (row : Ordered) → slice_get rows k ≡ Some row
    → IsAccessOfRow l steps rows row x
    → (w : ℕ) × IsLastWriteInTurn (accesses_of_run l steps rows) turn w x
    × RepliesWordOf l.opening (run_of l steps (length steps)) rows
    (access_at (accesses_of_run l steps rows) w) row

-- of each two lines that follow each other one is a fence
abbrev pub HasFencesBetween : List Line → Type 0
HasFencesBetween lines = (k : ℕ) (a b : Line) → slice_get lines k ≡ Some a
    → slice_get lines (suc k) ≡ Some b → (a ≡ line.Fence) ⊎ (b ≡ line.Fence)

-- so it is in each script
abbrev pub AreFencedApart : List (List Line) → Type 0
AreFencedApart scripts = (p : ℕ) → HasFencesBetween (list_at scripts p)
