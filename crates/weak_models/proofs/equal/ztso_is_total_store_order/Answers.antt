use Rattle.weak_models.proofs.Equalities.{ztso_equal, ztso_with_pairs}
use Rattle.weak_models.proofs.equal.ztso_is_total_store_order.Goals as goal

pub returns : goal.returns
returns c = record { equal = ztso_equal; with_pairs = ztso_with_pairs }
