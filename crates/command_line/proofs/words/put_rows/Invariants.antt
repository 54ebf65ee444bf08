use Rattle.std.proofs.Common.{take}
use Rattle.std.specs.Fmt.{HasWritten, IsPlainFormatter}
use Rattle.std.specs.List.{flat_map}
use Rattle.command_line.specs.Printed.{apart_text}
use Rattle.command_line.specs.TableRows.{named_command}
use Rattle.command_line.proofs.words.put_rows.Given as goal

abbrev pub invariant-loop-row : goal.invariant-loop-row
invariant-loop-row g l = IsPlainFormatter l.fn.f
    → HasWritten g.W.Write.write_str_gives l.fn.f (flat_map (λ row. apart_text (named_command row)) (take l.row-index l.rows)) l.f
