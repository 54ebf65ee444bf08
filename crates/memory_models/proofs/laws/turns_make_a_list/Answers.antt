use Rattle.memory_models.proofs.InTurns.{list_in_turns}
use Rattle.memory_models.proofs.laws.turns_make_a_list.Goals as goal

pub returns : goal.returns
returns c ops turn apart = list_in_turns ops turn apart
