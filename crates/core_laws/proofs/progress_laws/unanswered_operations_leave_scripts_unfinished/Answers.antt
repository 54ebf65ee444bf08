use Rattle.core_laws.proofs.Live as live
use Rattle.core_laws.proofs.progress_laws.unanswered_operations_leave_scripts_unfinished.Goals as goal

pub returns : goal.returns
returns c = record { script = live.unanswered_unfinished; all = live.unanswered_leaves }
