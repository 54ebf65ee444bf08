use Rattle.core_models.proofs.OfRuns.{trace_there, none_left_out}
use Rattle.core_models.proofs.laws.runs_have_traces.Goals as goal

pub returns : goal.returns
returns c = record { some = trace_there; whole = none_left_out }
