use Rattle.core_laws.proofs.ReachedRows.{seen_state}
use Rattle.core_laws.proofs.seen_laws.tiles_and_row_tell_the_state.Goals as goal

pub returns : goal.returns
returns c = seen_state
