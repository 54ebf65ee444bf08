-- Every run from an accepted load is a history of events, in which the processors follow their scripts.
use Rattle.std.proofs.Common.{ℕ, List, length}
use Rattle.torus.specs.Shape.{IsAccepted as IsAcceptedShape, tiles_of}
use Rattle.torus.specs.declared.step.Step.{Step}
use Rattle.one_order.specs.declared.ordered.Ordered.{Ordered}
use Rattle.one_order.specs.Events.{IsHistory, order_after}
use Rattle.one_order.specs.OneOrder.{HasOneOrder}
use Rattle.one_order.specs.Consequences.{ServesInTurn, AnswersInTurn}
use Rattle.one_order.proofs.IssueNumbers.{rows_of, one_order}
use Rattle.one_order.proofs.InTurn.{serves_in_turn}
use Rattle.one_order.proofs.AnswersInTurn.{answers_in_turn}
use Rattle.one_order.specs.AbstractScripts.{FollowScripts}
use Rattle.tile.specs.Tile.{Design}
use Rattle.core_laws.specs.Core.{Load, design_of, run_of}
use Rattle.core_laws.specs.Delivery.{DeliversPackets}
use Rattle.core_laws.specs.Noted.{noted}
use Rattle.core_laws.proofs.Histories.{state_at, event_at}
use Rattle.core_laws.proofs.Networks.{network}
use Rattle.core_laws.proofs.Delivered.{delivers}
use Rattle.core_laws.specs.Runs.{IsAcceptedLoad}
use Rattle.core_laws.proofs.RouterQuiet.{router_steps}
use Rattle.core_laws.proofs.QuietAgents.{agents_quiet}
use Rattle.core_laws.proofs.Runs as runs

-- the steps that are no issue, service or answer keep what holds
pub are_quiet : (d : Design) → IsAcceptedShape d.shape → (tags : ℕ) (opening : List ℕ) → runs.AreQuiet d tags opening
are_quiet d accepted tags opening s g order st values attempt none =
    agents_quiet d accepted tags opening s g order st (λ t t_in choice. router_steps d accepted tags opening s g order st t t_in choice) attempt none

module _ (l : Load) (ok : IsAcceptedLoad l) where
  pub quiet : runs.AreQuiet (design_of l) l.tags l.opening
  quiet = are_quiet (design_of l) ok.shape l.tags l.opening

  -- What holds after any number of steps.
  pub holds_in : (steps : List Step) (n : ℕ) → runs.HoldsIn l steps n
  holds_in steps n = runs.holds_in l ok quiet steps n

  -- Every run from an accepted load is a history.
  pub run_is_history : (steps : List Step) (n : ℕ) → IsHistory (tiles_of l.shape) l.tags l.opening (run_of l steps) (event_at l steps) n
  run_is_history steps n = runs.run_is_history l ok quiet steps n

  -- In every run each processor follows its script.
  pub scripts_are_followed : (steps : List Step) (n : ℕ) → FollowScripts (run_of l steps) n l.scripts
  scripts_are_followed steps n = runs.scripts_are_followed l ok quiet steps n

  -- Every run has one order, that of its services.
  pub has_one_order : (steps : List Step) (n : ℕ) → (rows : List Ordered) × HasOneOrder (tiles_of l.shape) l.tags l.opening (run_of l steps) n rows
  has_one_order steps n =
      let h = run_is_history steps n in
      let rows = rows_of (tiles_of l.shape) l.tags l.opening (run_of l steps) (event_at l steps) n h in
      (rows.0, one_order (tiles_of l.shape) l.tags l.opening (run_of l steps) (event_at l steps) n rows.0 h rows.1)

  -- Each bank serves each processor's operations in the order of their issue.
  pub banks_serve : (steps : List Step) (n b p : ℕ) → ServesInTurn (tiles_of l.shape) (run_of l steps n) b p
  banks_serve steps n b p =
      let order = has_one_order steps n in
      serves_in_turn (tiles_of l.shape) l.tags l.opening (run_of l steps) n order.0 order.1 b p

  -- Packets are delivered in order, between all tiles and of both classes.
  pub packets_delivered : (steps : List Step) (n : ℕ)
      → DeliversPackets (design_of l) (length l.opening) (state_at l steps n) (noted l steps n).requests (noted l steps n).taken
  packets_delivered steps n =
      let h = holds_in steps n in
      delivers (design_of l) l.tags l.opening (state_at l steps n) (noted l steps n) (order_after (event_at l steps) n) h.stands
      (network (design_of l) ok.shape)

  -- Each processor's answers of a bank are of a beginning of its entries there.
  pub answers_come : (steps : List Step) (n b p : ℕ) → AnswersInTurn (run_of l steps n) b p
  answers_come steps n b p =
      let order = has_one_order steps n in
      answers_in_turn (tiles_of l.shape) l.tags l.opening (run_of l steps) n order.0 order.1 b p
