use Rattle.one_order.proofs.AnswersInTurn.{answers_in_turn}
use Rattle.one_order.proofs.laws.answers_come_in_turn.Goals as goal

pub returns : goal.returns
returns c = answers_in_turn
