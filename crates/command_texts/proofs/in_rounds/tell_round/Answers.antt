use Rattle.std.proofs.Common.{arith}
use Rattle.std.proofs.lemmas.Grind.{common_steps}
use Rattle.command_texts.proofs.in_rounds.tell_round.Goals as goal

pub returns-then-wants : goal.returns-then-wants
returns-then-wants g c = grind (arith, common_steps)
