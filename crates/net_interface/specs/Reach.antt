-- The states that a processor's choices lead to.
use Rattle.std.specs.Prelude.{◌≢◌, All}
use Rattle.one_order.specs.ProcessorTable.{ProcessorState}

-- no flit that is left of the request in course is 0 (this project's own format)
pub record IsProcessorState (p : ProcessorState) : Type 0 where
  pub flits : All (λ flit. flit ≢ 0) p.to_put
