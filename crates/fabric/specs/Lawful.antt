-- The headline, of the run that a seat knows, or that is behind the end.
use Rattle.std.specs.Prelude.{◌≡◌, ◌⊎◌, ℕ, List, length, Some, slice_get}
use Rattle.torus.specs.declared.step.Step.{Step}
use Rattle.one_order.specs.Observed.{HasIssued, HasAnswered}
use Rattle.one_order.specs.Order.{LinearizationPoint, IsLegalOrder, StandsBefore}
use Rattle.fabric_rule.specs.Core.{Load, run_of}
use Rattle.fabric_rule.specs.Runs.{IsAcceptedLoad}
use Rattle.fabric_rule.specs.Machine.{IsLawful, book_after}
use Rattle.fabric_rule.specs.Groups.{Extends}
use Rattle.fabric.specs.Seats.{Knowing}
use Rattle.fabric.specs.Ending.{shown_after}

-- The load is accepted; and the operations of the run have one legal order, that of the services,
-- in which the place of an answer is the number of operations before it with the same home bank,
-- and its reply is that entry's; and every processor has followed its script (Herlihy and Wing,
-- TOPLAS 12(3), 1990: linearizability).
pub record HasLawfulRun (load : Load) (run : List Step) : Type 0 where
  pub accepted : IsAcceptedLoad load
  pub lawful : IsLawful load run (book_after load run).rows

-- operation i of p is issued, or answered, in a run
abbrev pub IsIssuedIn : Load → List Step → ℕ → ℕ → Type 0
IsIssuedIn load run p i = HasIssued (shown_after load run) p i

abbrev pub IsAnsweredIn : Load → List Step → ℕ → ℕ → Type 0
IsAnsweredIn load run p i = HasAnswered (shown_after load run) p i

-- In any legal order of any run that goes on from this one, what isn't issued in this one stands
-- behind all that is answered in it (Herlihy and Wing: the order of a history's non-overlapping
-- operations).
abbrev pub KeepsAnswersFirst : Load → List Step → Type 0
KeepsAnswersFirst load run =
    (later : List Step) (order : List LinearizationPoint) → Extends later run
    → IsLegalOrder load.opening (run_of load later) (length later) order
    → (k p i : ℕ) (y : LinearizationPoint) → slice_get order k ≡ Some y
    → (IsIssuedIn load run y.source y.index → ⊥) → IsAnsweredIn load run p i
    → StandsBefore order k p i

-- In any legal order of any run that goes on from the one that w knows, what isn't issued in that
-- one stands behind all that v or u knew as answered (Herlihy and Wing: the order of a history's
-- non-overlapping operations).
abbrev pub KeepsBothFirst : Knowing → Knowing → Knowing → Type 0
KeepsBothFirst v u w = (later : List Step) (order : List LinearizationPoint) → Extends later w.run
    → IsLegalOrder w.load.opening (run_of w.load later) (length later) order
    → (k p i : ℕ) (y : LinearizationPoint) → slice_get order k ≡ Some y
    → (IsIssuedIn w.load w.run y.source y.index → ⊥)
    → IsAnsweredIn v.load v.run p i ⊎ IsAnsweredIn u.load u.run p i → StandsBefore order k p i
