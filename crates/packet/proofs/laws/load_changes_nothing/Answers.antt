use Rattle.packet.proofs.Folds.{load_leaves}
use Rattle.packet.proofs.laws.load_changes_nothing.Goals as goal

pub returns : goal.returns
returns c = load_leaves
