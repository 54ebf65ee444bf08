use Rattle.core_models.proofs.OfRuns.{sequential_by_fences, sequential_by_one_tag}
use Rattle.core_models.proofs.laws.fenced_scripts_are_sequential.Goals as goal

pub returns : goal.returns
returns c = record { fences = sequential_by_fences; one_tag = sequential_by_one_tag }
