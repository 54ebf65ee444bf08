use Rattle.std.proofs.Common.{arith}
use Rattle.dead_sets.proofs.Looking.{cases_within}
use Rattle.dead_sets.proofs.peeling.peel.Goals as goal

pub chains_of-requires : goal.chains_of-requires
chains_of-requires g c = cases_within c.args.count _ c.args.at.now c.args.ways_out.now c.requires (omega arith) (omega arith)
