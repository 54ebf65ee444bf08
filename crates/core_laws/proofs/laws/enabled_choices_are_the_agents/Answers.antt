use Rattle.core_laws.proofs.AgentChoices.{own_choice, other_choice, numbered}
use Rattle.core_laws.proofs.laws.enabled_choices_are_the_agents.Goals as goal

pub returns : goal.returns
returns c = record { enabled = own_choice; other = other_choice; numbered = numbered }
