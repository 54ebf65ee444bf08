use Rattle.std.proofs.Common.{take}
use Rattle.std.specs.Prelude.{fold}
use Rattle.command_line.specs.CommandLine.{top_app}
use Rattle.command_line.specs.Making.{IsCommand, with_code_row}
use Rattle.command_line.proofs.making.command.Given as goal

abbrev pub invariant-loop-row : goal.invariant-loop-row
invariant-loop-row l = IsCommand (fold with_code_row top_app (take l.row-index l.rows)) l.command
