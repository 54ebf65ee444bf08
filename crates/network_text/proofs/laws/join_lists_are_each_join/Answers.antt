use Rattle.std.proofs.Common.{refl}
use Rattle.network_text.proofs.Joined.{joined_each}
use Rattle.network_text.proofs.laws.join_lists_are_each_join.Goals as goal

pub returns : goal.returns
returns c = record { each = joined_each; text = refl; all = refl }
