-- All lines were written.
use Rattle.std.specs.Prelude.{ℕ, List}
use Rattle.std.proofs.Common.{subst}
use Rattle.std.specs.Fmt.{HasWritten}
use Rattle.command_line.specs.Printed.{apart_text}
use Rattle.command_line.specs.TableRows.{named_command}
use Rattle.command_line.proofs.Made.{all_texts}
use Rattle.command_line.proofs.words.put_rows.Goals as goal

pub returns : goal.returns
returns g c = λ plain ok.
    subst (λ (t : List ℕ). HasWritten g.W.Write.write_str_gives c.args.f.now t c.loop-row.f)
    (all_texts apart_text named_command c.args.rows.now c.loop-row.row-index c.loop-row-test.false) (c.loop-row.invariant plain)
