use Rattle.core_laws.proofs.EveryRun.{answers_come}
use Rattle.core_laws.proofs.laws.answers_come_in_turn.Goals as goal

pub returns : goal.returns
returns c = answers_come
