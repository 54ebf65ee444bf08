use Rattle.trace_laws.proofs.Start.{searched_none}
use Rattle.trace_laws.proofs.search_laws.searches_begin.Goals as goal

pub returns : goal.returns
returns c = λ opening trace tables sets empty first. searched_none opening trace tables sets empty first
