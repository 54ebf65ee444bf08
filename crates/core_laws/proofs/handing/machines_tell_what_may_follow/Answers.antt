use Rattle.core_laws.proofs.Handed.{told}
use Rattle.core_laws.proofs.handing.machines_tell_what_may_follow.Goals as goal

pub returns : goal.returns
returns c = told
