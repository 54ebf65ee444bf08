use Rattle.std.proofs.Common.{◌∙◌, sym}
use Rattle.report_check.proofs.Unbroken.{told_none}
use Rattle.report_check.proofs.checker.Checker.any_left_out.Goals as goal

pub returns-then-self-eq7 : goal.returns-then-self-eq7
returns-then-self-eq7 g c s shows = sym (told_none s s.words (shows.told (sym shows.section ∙ c.if-self-eq7.true)))
