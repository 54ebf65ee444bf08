use Rattle.core_laws.proofs.OfRound as of_round
use Rattle.core_laws.proofs.progress_laws.first_enabled_step_is_found.Goals as goal

pub returns : goal.returns
returns c = record { found = of_round.found_is; none = of_round.none_is; round = of_round.enabled_on }
