use Rattle.std.proofs.Common.{◌≡◌, ◌++◌, drop}
use Rattle.report_lines.specs.Contents.{init_lines_from}
use Rattle.report_lines.proofs.sections.push_inits.Given as goal

-- the lines so far and those of the words that are left are all the lines
abbrev pub invariant-loop-address : goal.invariant-loop-address
invariant-loop-address g l =
    l.lines.items ++ init_lines_from l.address (drop l.address (g.S.Shows.contents l.shown).opening)
    ≡ l.fn.lines.items ++ init_lines_from 0 (g.S.Shows.contents l.shown).opening
