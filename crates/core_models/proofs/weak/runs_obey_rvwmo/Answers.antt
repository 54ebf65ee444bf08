use Rattle.core_models.proofs.WeakRuns.{every_run, in_one_order}
use Rattle.core_models.proofs.weak.runs_obey_rvwmo.Goals as goal

pub returns : goal.returns
returns c = record { every_run = every_run; in_one_order = in_one_order }
