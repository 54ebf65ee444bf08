-- What is given where a step is judged by its move: proper packets, and that quiet steps keep what holds.
use Rattle.std.proofs.Common.{◌≡◌, ℕ, ◌<◌, List, length, None, Some}
use Rattle.std.specs.Prelude.{slice_index}
use Rattle.torus.specs.Shape.{tiles_of}
use Rattle.torus.specs.declared.step.Step.{Step}
use Rattle.packet.specs.declared.kinds.Operation.{Operation}
use Rattle.packet.specs.declared.kinds.Request.{Request as Asking}
use Rattle.packet.specs.Memory.{reply_to}
use Rattle.home_bank.specs.ServiceList.{address_of, response_of}
use Rattle.one_order.specs.Order.{LinearizationPoint}
use Rattle.one_order.specs.ProcessorRecord.{ready, request_of}
use Rattle.tile.specs.Tile.{Design}
use Rattle.core_laws.specs.Core.{State, next}
use Rattle.core_laws.specs.Moves.{move_of}
use Rattle.core_laws.specs.Network.{network_event}
use Rattle.core_laws.proofs.QuietSteps.{Stays}
use Rattle.core_laws.proofs.Stands.{Ghost, IsProperRequest, IsProperResponse, tile_at}

-- what is given: of the machine's values, and of the steps that are no issue, service or answer
pub record IsRestAt (d : Design) (tags : ℕ) (opening : List ℕ) (s : State) (g : Ghost) (order : List LinearizationPoint) : Type 0 where
  pub requests : (t tag : ℕ) (o : Operation) → t < tiles_of d.shape → ready (tile_at s t).processor.operations ≡ Some (tag, o)
      → IsProperRequest d (request_of (tiles_of d.shape) t tag o) × (o.address < length opening)
  pub responses : (t : ℕ) (r : Asking) → t < tiles_of d.shape → (tile_at s t).bank.waiting ≡ Some r
      → IsProperResponse d (response_of t (length (tile_at s t).bank.entries) r
      (reply_to r.op (slice_index s.around.words (address_of t (tiles_of d.shape) r.word))))
  pub quiet : (attempt : Step) → move_of d s attempt ≡ None → Stays d tags opening g order (next d s attempt) (network_event d s attempt)
