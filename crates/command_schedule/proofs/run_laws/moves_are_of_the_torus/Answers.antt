use Rattle.command_schedule.proofs.RunsAgain.{moves_are, further_moves_are}
use Rattle.command_schedule.proofs.run_laws.moves_are_of_the_torus.Goals as goal

pub returns : goal.returns
returns c = record { load = moves_are; machine = further_moves_are }
