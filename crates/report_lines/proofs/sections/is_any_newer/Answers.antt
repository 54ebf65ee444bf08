use Rattle.std.proofs.Common.{◌∙◌, Bool, List, refl, sym}
use Rattle.std.specs.List.{list_any}
use Rattle.report_lines.specs.Contents.{is_newer}
use Rattle.report_lines.specs.declared.parts.EntryRow.{EntryRow}
use Rattle.report_lines.proofs.Pieces.{some_found, some_passed}
use Rattle.report_lines.proofs.sections.is_any_newer.Goals as goal

abbrev has_newer : List EntryRow → Bool
has_newer es = list_any (λ e. is_newer e.op) es

pub returns-then-has_newer : goal.returns-then-has_newer
returns-then-has_newer g c =
    some_found has_newer refl (g.S.Shows.contents c.args.shown.now).entries c.loop-bank.bank _ (sym c.has_newer.ensures ∙ c.if-has_newer.true) c.loop-bank.invariant

pub loop-bank-preserved : goal.loop-bank-preserved
loop-bank-preserved g c =
    some_passed has_newer refl (g.S.Shows.contents c.args.shown.now).entries c.loop-bank.bank _ (sym c.has_newer.ensures ∙ c.if-has_newer.false) c.loop-bank.invariant
