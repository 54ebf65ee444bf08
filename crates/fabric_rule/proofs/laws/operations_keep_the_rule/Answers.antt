use Rattle.fabric_rule.proofs.Attempts as attempts
use Rattle.fabric_rule.proofs.laws.operations_keep_the_rule.Goals as goal

pub returns : goal.returns
returns c = record { kept = attempts.step_kept; told = attempts.step_told }
