use Rattle.core_models.proofs.OfRuns.{is_trace, is_coherent, is_fenced}
use Rattle.core_models.proofs.laws.runs_are_fenced.Goals as goal

pub returns : goal.returns
returns c = record { trace = is_trace; coherent = is_coherent; fenced = is_fenced }
