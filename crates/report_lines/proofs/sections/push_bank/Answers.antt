use Rattle.std.proofs.Common.{◌++◌, ◌∙◌, [], ap, slice_index_or}
use Rattle.std.specs.Option.{option_to_list}
use Rattle.report_lines.specs.Contents.{bank_lines_from}
use Rattle.report_lines.proofs.Pieces.{bank_is, each_next}
use Rattle.report_lines.proofs.sections.push_bank.Goals as goal

pub loop-place-preserved : goal.loop-place-preserved
loop-place-preserved g c =
    each_next (bank_lines_from c.args.bank) (bank_is c.args.bank) c.loop-place.lines.items _ _ (slice_index_or (g.S.Shows.contents c.args.shown.now).entries c.args.bank []) c.loop-place.place
    (c.in_ok-push_entry.ensures ∙ ap (λ o. c.loop-place.lines.items ++ bank_lines_from c.args.bank c.loop-place.place (option_to_list o)) c.entry.ensures)
    c.loop-place.invariant
