use Rattle.trace_judge.proofs.Guessing.{good_from_none}
use Rattle.trace_judge.proofs.explain.note_conflict.Goals as goal

pub returns : goal.returns
returns c = good_from_none c.args.opening.now c.args.events.now c.requires
