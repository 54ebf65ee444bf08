use Rattle.core_laws.proofs.RowAttempts.{leads_on}
use Rattle.core_laws.proofs.seen_laws.attempts_lead_on.Goals as goal

pub returns : goal.returns
returns c = leads_on
