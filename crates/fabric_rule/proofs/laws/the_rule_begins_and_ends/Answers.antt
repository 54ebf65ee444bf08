use Rattle.fabric_rule.proofs.Ending as ending
use Rattle.fabric_rule.proofs.laws.the_rule_begins_and_ends.Goals as goal

pub returns : goal.returns
returns c = record { begins = ending.begins; ends = ending.ends }
