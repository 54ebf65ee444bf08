use Rattle.std.proofs.Common.{◌≡◌, ◌++◌, take, length}
use Rattle.std.specs.Prelude.{flat_map}
use Rattle.std.specs.String.{string_bytes}
use Rattle.command_live.specs.declared.told.Told.TheVariants as told
use Rattle.command_live.specs.Text.{told_text}
use Rattle.command_live.specs.Rows.{row_line}
use Rattle.command_live.proofs.rows.rows_text.Given as goal

abbrev pub invariant-loop-row : goal.invariant-loop-row
invariant-loop-row g l =
    string_bytes l.text ≡ told_text (told.Rows (length l.fn.rows)) ++ flat_map row_line (take l.row-index l.rows)
