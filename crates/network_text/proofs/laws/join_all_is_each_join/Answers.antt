use Rattle.std.proofs.Common.{refl}
use Rattle.network_text.proofs.laws.join_all_is_each_join.Goals as goal

pub returns : goal.returns
returns c = refl
