use Rattle.report_lines.proofs.LinesFound.{line_spelled, gives_found, gives_none}
use Rattle.report_lines.proofs.reading.read_line.Goals as goal

pub returns-clause-found : goal.returns-clause-found
returns-clause-found c = gives_found _ c.read_any.result _ _ c.read_any.ensures (line_spelled c.args.text.now)

pub returns-clause-none : goal.returns-clause-none
returns-clause-none c = gives_none _ c.read_any.result c.args.text.now c.read_any.ensures
