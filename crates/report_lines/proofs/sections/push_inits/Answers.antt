use Rattle.std.proofs.Common.{◌++◌, ◌∙◌, ap}
use Rattle.std.specs.Option.{option_to_list}
use Rattle.report_lines.specs.Contents.{init_lines_from}
use Rattle.report_lines.proofs.Pieces.{each_next, inits_are}
use Rattle.report_lines.proofs.sections.push_inits.Goals as goal

pub loop-address-preserved : goal.loop-address-preserved
loop-address-preserved g c =
    each_next init_lines_from inits_are c.loop-address.lines.items _ _ (g.S.Shows.contents c.args.shown.now).opening c.loop-address.address
    (c.in_ok-push_init.ensures ∙ ap (λ o. c.loop-address.lines.items ++ init_lines_from c.loop-address.address (option_to_list o)) c.opening.ensures)
    c.loop-address.invariant
