use Rattle.core_models.proofs.OfRuns.{replied_found, found_before}
use Rattle.core_models.proofs.laws.operations_reply_what_they_find.Goals as goal

pub returns : goal.returns
returns c = record { replies = replied_found; last = found_before }
