use Rattle.std.proofs.Common.{◌≡◌, drop}
use Rattle.std.specs.List.{list_any}
use Rattle.report_lines.specs.Contents.{is_newer}
use Rattle.report_lines.proofs.sections.is_any_newer.Given as goal

-- the banks so far have none
abbrev pub invariant-loop-bank : goal.invariant-loop-bank
invariant-loop-bank g l =
    list_any (λ es. list_any (λ e. is_newer e.op) es) (drop l.bank (g.S.Shows.contents l.shown).entries)
    ≡ list_any (λ es. list_any (λ e. is_newer e.op) es) (g.S.Shows.contents l.shown).entries
