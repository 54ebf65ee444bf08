use Rattle.script.proofs.AgentChoices.{of_agent}
use Rattle.script.proofs.laws.lines_name_choices_of_their_agents.Goals as goal

pub returns : goal.returns
returns c = of_agent
