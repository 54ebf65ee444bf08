use Rattle.core_laws.proofs.Live as live
use Rattle.core_laws.proofs.progress_laws.some_step_is_enabled.Goals as goal

pub returns : goal.returns
returns c = record { live = live.is_live; moves = live.round_makes_move }
