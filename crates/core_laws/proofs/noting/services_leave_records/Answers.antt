use Rattle.core_laws.proofs.Notes.{records_left}
use Rattle.core_laws.proofs.noting.services_leave_records.Goals as goal

pub returns : goal.returns
returns c = records_left
