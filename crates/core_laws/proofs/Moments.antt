-- What holds of the operations at each moment of a run.
use Rattle.std.proofs.Common.{ℕ, List}
use Rattle.torus.specs.Shape.{tiles_of}
use Rattle.torus.specs.declared.step.Step.{Step}
use Rattle.one_order.specs.Order.{LinearizationPoint}
use Rattle.one_order.specs.Events.{order_after}
use Rattle.one_order.specs.Courses.{events_of}
use Rattle.one_order.proofs.Bounds.{Moment}
use Rattle.one_order.proofs.Reports as reports
use Rattle.core_laws.specs.Core.{Load, run_of}
use Rattle.core_laws.specs.Runs.{IsAcceptedLoad}
use Rattle.core_laws.specs.Noted.{flight_after, move_after}
use Rattle.core_laws.proofs.CourseRuns.{is_course}

module _ (l : Load) (steps : List Step) where
  -- the operations in the order of their services, after n steps
  abbrev pub points : ℕ → List LinearizationPoint
  points n = order_after (events_of (flight_after l steps) (move_after l steps)) n

  pub moment : IsAcceptedLoad l → (n : ℕ) → Moment (tiles_of l.shape) l.tags l.opening l.scripts (run_of l steps) n (flight_after l steps n) (points n)
  moment ok n =
      reports.moment (tiles_of l.shape) l.tags l.opening l.scripts (flight_after l steps) (move_after l steps) n (is_course l ok steps n)
      (reports.all_followable (tiles_of l.shape) l.tags l.opening l.scripts (flight_after l steps) (move_after l steps) ok.scripts)
