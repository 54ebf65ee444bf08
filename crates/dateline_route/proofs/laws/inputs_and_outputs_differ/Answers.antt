use Rattle.dateline_route.proofs.Neighbours.{apart}
use Rattle.dateline_route.proofs.laws.inputs_and_outputs_differ.Goals as goal

pub returns : goal.returns
returns c = apart
