use Rattle.fabric_rule.proofs.Growing.{kept_grow}
use Rattle.fabric_rule.proofs.Joining.{kept_joined}
use Rattle.fabric_rule.proofs.Cutting.{kept_cut}
use Rattle.fabric_rule.proofs.laws.views_keep_the_rule.Goals as goal

pub returns : goal.returns
returns c = record { grown = kept_grow; joined = kept_joined; cut = kept_cut }
