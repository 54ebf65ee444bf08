use Rattle.std.proofs.lemmas.List.Concat.{flat_map-append}
use Rattle.command_schedule.specs.Line.{line_text}
use Rattle.command_schedule.proofs.Again.{moves_among-append}
use Rattle.command_schedule.proofs.Growing.{one_more_round}
use Rattle.command_schedule.proofs.line_laws.schedules_grow.Goals as goal

pub returns : goal.returns
returns c = record {
  rounds = one_more_round;
  text = λ ls more. flat_map-append line_text ls more;
  moves = moves_among-append;
}
