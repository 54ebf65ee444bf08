use Rattle.weak_models.proofs.Equalities.{bare_equal, coherent_of}
use Rattle.weak_models.proofs.equal.bare_is_coherent.Goals as goal

pub returns : goal.returns
returns c = record { coherent = coherent_of; equal = bare_equal }
