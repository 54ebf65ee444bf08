-- All that is said of a run's order, over one order.
use Rattle.std.specs.Prelude.{ℕ, List, length}
use Rattle.one_order.specs.declared.ordered.Ordered.{Ordered}
use Rattle.one_order.specs.Observed.{Run, IsOfMachine}
use Rattle.one_order.specs.Order.{LinearizationPoint, IsLegalOrder, IsServiceOrder}
use Rattle.one_order.specs.Growth.{OnlyGrows}
use Rattle.one_order.specs.Rows.{AreRowsOf}

-- In the first n steps of a run what is shown only grows, and their operations that took effect
-- have one order: it is legal, it is that of the services, and the rows are its rows (Herlihy and
-- Wing, TOPLAS 12(3), 1990: the run is linearizable, and the rows tell the linearization).
pub record HasOneOrder (tiles tags : ℕ) (opening : List ℕ) (run : Run) (n : ℕ)
    (rows : List Ordered) : Type 0 where
  pub order : List LinearizationPoint
  pub legal : IsLegalOrder opening run n order
  pub services : IsServiceOrder tiles opening run n order
  pub numbered : AreRowsOf tiles run n order rows
  pub grows : OnlyGrows opening run n
  pub shown : IsOfMachine tiles tags (length opening) (run n)
