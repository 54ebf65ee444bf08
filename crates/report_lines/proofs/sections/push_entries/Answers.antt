use Rattle.std.proofs.Common.{refl}
use Rattle.report_lines.specs.Contents.{bank_lines}
use Rattle.report_lines.proofs.Pieces.{pieces_next}
use Rattle.report_lines.proofs.sections.push_entries.Goals as goal

pub loop-bank-preserved : goal.loop-bank-preserved
loop-bank-preserved g c =
    pieces_next bank_lines (λ n. refl) c.loop-bank.lines.items _ _ (g.S.Shows.contents c.args.shown.now).entries c.loop-bank.bank c.in_ok-push_bank.ensures c.loop-bank.invariant
