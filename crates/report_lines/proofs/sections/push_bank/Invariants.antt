use Rattle.std.proofs.Common.{◌≡◌, ◌++◌, [], drop, slice_index_or}
use Rattle.report_lines.specs.Contents.{bank_lines_from}
use Rattle.report_lines.proofs.sections.push_bank.Given as goal

-- the lines so far and those of the entries that are left are all the lines
abbrev pub invariant-loop-place : goal.invariant-loop-place
invariant-loop-place g l =
    l.lines.items ++ bank_lines_from l.bank l.place (drop l.place (slice_index_or (g.S.Shows.contents l.shown).entries l.bank []))
    ≡ l.fn.lines.items ++ bank_lines_from l.bank 0 (slice_index_or (g.S.Shows.contents l.shown).entries l.bank [])
