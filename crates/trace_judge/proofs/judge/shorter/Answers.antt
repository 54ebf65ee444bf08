use Rattle.std.proofs.Common.{length}
use Rattle.trace_judge.proofs.Boundary.{trace_take}
use Rattle.trace_judge.proofs.judge.shorter.Goals as goal

pub seen_by_zones-requires : goal.seen_by_zones-requires
seen_by_zones-requires g c = trace_take (length c.args.opening.now) _ c.args.events.now c.requires.trace
