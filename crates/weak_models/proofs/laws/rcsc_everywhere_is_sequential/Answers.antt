use Rattle.weak_models.proofs.Weakened.{of_sequential, to_sequential}
use Rattle.weak_models.proofs.laws.rcsc_everywhere_is_sequential.Goals as goal

pub returns-clause-sequential : goal.returns-clause-sequential
returns-clause-sequential c = of_sequential

pub returns-clause-no_others : goal.returns-clause-no_others
returns-clause-no_others c = to_sequential
