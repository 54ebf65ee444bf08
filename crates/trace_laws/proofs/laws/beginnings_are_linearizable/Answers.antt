use Rattle.trace_laws.proofs.Beginnings.{beginning}
use Rattle.trace_laws.proofs.laws.beginnings_are_linearizable.Goals as goal

pub returns : goal.returns
returns c = λ words opening trace n t is. beginning words opening trace n t is
