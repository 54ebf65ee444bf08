use Rattle.core_laws.proofs.Live as live
use Rattle.core_laws.proofs.progress_laws.finished_scripts_are_followed_to_their_ends.Goals as goal

pub returns : goal.returns
returns c = live.finished_is_finished
