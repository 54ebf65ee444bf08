use Rattle.std.proofs.Common.{◌∙◌, Bool, [], ap, sym, slice_index_or}
use Rattle.std.specs.List.{list_any}
use Rattle.std.specs.Option.{option_to_list}
use Rattle.report_lines.specs.Contents.{is_newer}
use Rattle.report_lines.specs.declared.parts.EntryRow.{EntryRow}
use Rattle.report_lines.proofs.Pieces.{any_found, any_passed}
use Rattle.report_lines.proofs.sections.has_newer.Goals as goal

abbrev newer : EntryRow → Bool
newer e = is_newer e.op

pub returns-then-is_newer_entry : goal.returns-then-is_newer_entry
returns-then-is_newer_entry g c =
    any_found newer (slice_index_or (g.S.Shows.contents c.args.shown.now).entries c.args.bank []) c.loop-place.place _
    (ap (λ o. list_any newer (option_to_list o)) (sym c.entry.ensures) ∙ sym c.is_newer_entry.ensures ∙ c.if-is_newer_entry.true) c.loop-place.invariant

pub loop-place-preserved : goal.loop-place-preserved
loop-place-preserved g c =
    any_passed newer (slice_index_or (g.S.Shows.contents c.args.shown.now).entries c.args.bank []) c.loop-place.place _
    (ap (λ o. list_any newer (option_to_list o)) (sym c.entry.ensures) ∙ sym c.is_newer_entry.ensures ∙ c.if-is_newer_entry.false) c.loop-place.invariant
