use Rattle.weak_models.proofs.Equalities.{rcsc_equal}
use Rattle.weak_models.proofs.equal.rcsc_is_sequential.Goals as goal

pub returns : goal.returns
returns c = rcsc_equal
