use Rattle.weak_models.proofs.Weakened.{fewer_dependencies}
use Rattle.weak_models.proofs.laws.fewer_dependencies_allow_no_less.Goals as goal

pub returns : goal.returns
returns c = fewer_dependencies
