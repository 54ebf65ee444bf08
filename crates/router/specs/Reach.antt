-- The states that a router's choices lead to, and the ports that it wants in them.
use Rattle.std.specs.Prelude.{◌≡◌, ◌≢◌, ℕ, ◌<◌, length, Some}
use Rattle.router.specs.Table.{RouterState, latch_of, output_owned}

-- with this many inputs and outputs: no latched word is 0, and each output that an input owns is
-- there (this project's own format)
pub record IsRouterState (ports : ℕ) (r : RouterState) : Type 0 where
  pub latches : length r.latches ≡ ports
  pub owned : length r.owned ≡ ports
  pub flits : (i flit : ℕ) → latch_of r i ≡ Some flit → flit ≢ 0
  pub outputs : (i o : ℕ) → output_owned r i ≡ Some o → o < ports
