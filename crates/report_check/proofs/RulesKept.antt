-- A line that breaks no rule is allowed.
use Rattle.std.proofs.Common.{◌≡◌, None}
use Rattle.report_lines.specs.declared.line.ReportLine.{ReportLine}
use Rattle.report_lines.specs.declared.line.ReportLine.TheVariants.{Header, Shape, Init, Entry, Answer, Word, Order, End}
use Rattle.report_check.specs.Seen.{Seen}
use Rattle.report_check.specs.Good.{Allowed}
use Rattle.report_check.specs.Broken.{line_broken}
use Rattle.report_check.proofs.Banked.{Banked}
use Rattle.report_check.proofs.HeadRules.{header_kept, shape_kept, init_kept, word_line_kept}
use Rattle.report_check.proofs.EntryRules.{entry_kept}
use Rattle.report_check.proofs.AnswerRules.{answer_kept}
use Rattle.report_check.proofs.OrderRules.{order_kept, end_kept}

pub line_kept : (s : Seen) (line : ReportLine) → Banked s → line_broken s line ≡ None → Allowed s line
line_kept s (Header version) banked h = header_kept s version h
line_kept s (Shape radices words) banked h = shape_kept s radices words h
line_kept s (Init address value) banked h = init_kept s address value h
line_kept s (Entry e) banked h = entry_kept s e h
line_kept s (Answer a) banked h = answer_kept s a h
line_kept s (Word address value) banked h = word_line_kept s address value h
line_kept s (Order o) banked h = order_kept s o h
line_kept s (End complete) banked h = end_kept s complete banked h
