use Rattle.std.proofs.Common.{◌≡◌, ◌++◌, drop}
use Rattle.report_lines.specs.Contents.{bank_lines, entry_lines}
use Rattle.report_lines.proofs.Pieces.{pieces_from}
use Rattle.report_lines.proofs.sections.push_entries.Given as goal

-- the lines so far and those of the tiles that are left are all the lines
abbrev pub invariant-loop-bank : goal.invariant-loop-bank
invariant-loop-bank g l =
    l.lines.items ++ pieces_from bank_lines l.bank (drop l.bank (g.S.Shows.contents l.shown).entries) ≡ l.fn.lines.items ++ entry_lines (g.S.Shows.contents l.shown).entries
