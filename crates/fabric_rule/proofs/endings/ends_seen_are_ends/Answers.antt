use Rattle.core_laws.proofs.Lawful.{finishes}
use Rattle.fabric_rule.proofs.Ends.{all_ended}
use Rattle.fabric_rule.proofs.endings.ends_seen_are_ends.Goals as goal

pub returns : goal.returns
returns c = record {
  followers = all_ended;
  scripts = λ load ok run ended. (finishes load ok run).0 ended;
}
