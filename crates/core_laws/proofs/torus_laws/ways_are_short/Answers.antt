use Rattle.core_laws.proofs.TorusEnds.{few_channels}
use Rattle.core_laws.proofs.torus_laws.ways_are_short.Goals as goal

pub returns : goal.returns
returns c = few_channels
