-- The runs of a list of steps and of a longer one begin alike, and so do their orders.
use Rattle.std.proofs.Common.{◌≡◌, ℕ, zero, suc, ◌≤◌, List, [], ◌∷◌, ◌++◌, length, take, refl, sym, ap, arith, length-append}
use Rattle.torus.specs.Shape.{tiles_of}
use Rattle.torus.specs.declared.step.Step.{Step}
use Rattle.one_order.specs.Rows.{BeginRows}
use Rattle.one_order.proofs.Agreement.{one_order_agree}
use Rattle.one_order.proofs.Beginnings.{rows_go_on}
use Rattle.core_laws.specs.Core.{Load, show, after, run_of}
use Rattle.core_laws.specs.Runs.{IsAcceptedLoad}
use Rattle.core_laws.proofs.Histories.{event_at}
use Rattle.core_laws.proofs.EveryRun.{run_is_history}
use Rattle.core_laws.specs.Machine.{book_after}
use Rattle.core_laws.proofs.Lawful.{one_order}

-- the first steps of a longer list
first_steps : (steps more : List Step) (k : ℕ) → k ≤ length steps → take k (steps ++ more) ≡ take k steps
first_steps steps more zero l = refl
first_steps [] more (suc k) l = absurd (omega arith)
first_steps (x ∷ steps) more (suc k) l = ap (λ (xs : List Step). x ∷ xs) (first_steps steps more k (omega arith))

pub run_begins : (l : Load) (steps more : List Step) (k : ℕ) → k ≤ length steps → run_of l (steps ++ more) k ≡ run_of l steps k
run_begins l steps more k le = ap (λ (xs : List Step). show (length l.opening) (after l xs)) (first_steps steps more k le)

-- the rows of a longer list of steps begin with those of its first steps
pub rows_begin : (l : Load) (steps more : List Step) → IsAcceptedLoad l → BeginRows (book_after l steps).rows (book_after l (steps ++ more)).rows
rows_begin l steps more ok =
    let tiles : ℕ = tiles_of l.shape in
    let all : List Step = steps ++ more in
    let one = one_order_agree tiles l.tags l.opening (run_of l steps) (run_of l all) (length steps) (book_after l steps).rows
    (λ k le. sym (run_begins l steps more k le)) (one_order l ok steps) in
    rows_go_on tiles l.tags l.opening (run_of l all) (event_at l all) (length steps) (length all) (book_after l steps).rows (book_after l all).rows
    (omega (arith, length-append steps more))
    (run_is_history l ok all (length all)) one (one_order l ok all)
