use Rattle.machine_parts.proofs.KeptSleepers.{one_roused, everyone, choice_roused, every_choice}
use Rattle.machine_parts.proofs.laws.roused_agents_are_awake.Goals as goal

pub returns : goal.returns
returns c = record { one = one_roused; all = everyone; choice = choice_roused; choices = every_choice }
