use Rattle.std.proofs.Common.{◌≡◌, [], drop, slice_index_or}
use Rattle.std.specs.List.{list_any}
use Rattle.report_lines.specs.Contents.{is_newer}
use Rattle.report_lines.proofs.sections.has_newer.Given as goal

-- the entries so far are none of the newer operations
abbrev pub invariant-loop-place : goal.invariant-loop-place
invariant-loop-place g l =
    list_any (λ e. is_newer e.op) (drop l.place (slice_index_or (g.S.Shows.contents l.shown).entries l.bank []))
    ≡ list_any (λ e. is_newer e.op) (slice_index_or (g.S.Shows.contents l.shown).entries l.bank [])
