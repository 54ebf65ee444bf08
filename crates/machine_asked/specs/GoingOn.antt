-- A machine that goes on where another stands.
use Rattle.std.specs.Prelude.{◌≡◌, ◌++◌, List, length}
use Rattle.torus.specs.declared.step.Step.{Step}
use Rattle.packet.specs.Memory.{memory_after, replies}
use Rattle.one_order.specs.Order.{LinearizationPoint, IsLegalOrder, operations_of}
use Rattle.machine_parts.specs.Core.{Load, run_of}

-- both runs have a legal order; the operations of the first order and then those of the second are served
-- by one memory, from the opening words of the first load on: with the replies of each order over its
-- own opening words, and it holds the words of the second run in the end (Herlihy and Wing, TOPLAS
-- 12(3), 1990)
pub record GoesOnFrom (l : Load) (steps : List Step) (k : Load) (more : List Step) : Type 0 where
  pub first : List LinearizationPoint
  pub second : List LinearizationPoint
  pub before : IsLegalOrder l.opening (run_of l steps) (length steps) first
  pub behind : IsLegalOrder k.opening (run_of k more) (length more) second
  pub served : replies (operations_of first ++ operations_of second) l.opening
      ≡ replies (operations_of first) l.opening ++ replies (operations_of second) k.opening
  pub memory : (run_of k more (length more)).memory
      ≡ memory_after (operations_of first ++ operations_of second) l.opening
