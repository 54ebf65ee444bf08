use Rattle.command_schedule.proofs.RunsAgain.{rounds_again, moves_again}
use Rattle.command_schedule.proofs.run_laws.schedules_run_again.Goals as goal

pub returns : goal.returns
returns c = record { rounds = rounds_again; moves = moves_again }
