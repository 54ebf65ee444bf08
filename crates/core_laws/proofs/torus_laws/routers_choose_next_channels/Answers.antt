use Rattle.core_laws.proofs.Heads.{next_is, head_goes_on}
use Rattle.core_laws.proofs.torus_laws.routers_choose_next_channels.Goals as goal

pub returns : goal.returns
returns c = record { next = next_is; head = head_goes_on }
