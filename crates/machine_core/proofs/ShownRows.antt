-- What the row of every machine that is reached shows.
use Rattle.std.proofs.Common.{◌≡◌, ℕ, ◌+◌, ◌%◌, List, length, take, sym, ◌∙◌, ap, subst, arith}
use Rattle.std.proofs.Math.Seq.{take-length}
use Rattle.torus.specs.declared.step.Step.{Step}
use Rattle.flit_buffer.proofs.RingArithmetic.{place_from}
use Rattle.machine_parts.specs.Core.{Load}
use Rattle.machine_parts.specs.Runs.{IsAcceptedLoad}
use Rattle.machine_parts.proofs.Reached.{reports_counted}
use Rattle.machine_parts.specs.Taken.{words_taken}
use Rattle.machine_parts.proofs.RowOfRuns as reached
use Rattle.machine_parts.proofs.Fronts.{front_counts_taken, flit_behind_taken}
use Rattle.machine_parts.specs.Machine.{Core, IsAfter, core_after_load}
use Rattle.machine_parts.proofs.Machines.{named_machine}
use Rattle.machine_core.specs.Shown.{ShowsRow}

-- a place counted on from a remainder
from_rest : (depth a i : ℕ) → (a % depth + i) % depth ≡ (a + i) % depth
from_rest depth a i =
    ap (λ k. (k % depth + i) % depth) (let z : a ≡ a + 0 = omega arith in z) ∙ (place_from depth a 0 i ∙ ap (λ k. k % depth) (omega arith))

-- the row after the first n steps
after_first : (l : Load) (steps : List Step) (n : ℕ) → IsAcceptedLoad l → ShowsRow l (take n steps) (core_after_load l (take n steps))
after_first l steps n ok = record {
  size = reached.size l ok steps n;
  flits = λ x i x_in h. flit_behind_taken l ok x x_in steps n i h;
  empty = λ x q x_in low none. reached.rest_empty l ok steps n x x_in q low (λ i h e. none i h
      (sym (from_rest l.depth (words_taken l (take n steps) x) i) ∙ (ap (λ k. (k + i) % l.depth) (sym (front_counts_taken l ok x x_in steps n)) ∙ e)));
  words = reached.memory_shown l ok steps n;
  done = reached.done_shown l ok steps n ∙ (reports_counted l ok steps n).counts;
}

pub shows_row : (l : Load) (c : Core) (steps : List Step) → IsAfter l c steps → ShowsRow l steps c
shows_row l c steps h =
    subst (ShowsRow l steps) (sym (named_machine l c steps h))
    (subst (λ (xs : List Step). ShowsRow l xs (core_after_load l xs)) (take-length steps) (after_first l steps (length steps) h.accepted))
