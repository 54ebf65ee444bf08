use Rattle.tile.proofs.OwnSteps.{no_op, no_step, blind}
use Rattle.tile.proofs.laws.tiles_tell_their_own_steps.Goals as goal

pub returns : goal.returns
returns c = record { op = no_op; absorbed = no_step; store = blind }
