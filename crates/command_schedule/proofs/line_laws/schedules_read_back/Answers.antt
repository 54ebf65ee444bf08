use Rattle.command_schedule.proofs.Again.{lines_read_back, rounds_read_back, moves_read_back}
use Rattle.command_schedule.proofs.line_laws.schedules_read_back.Goals as goal

pub returns : goal.returns
returns c = record {
  lines = lines_read_back;
  rounds = rounds_read_back;
  moves = moves_read_back;
}
