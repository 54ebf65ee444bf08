use Rattle.model_values.specs.Known.{HasNoted}
use Rattle.model_values.proofs.known.put_behind.Given as goal

-- the pair is noted, and turns still agree with the table
abbrev pub invariant-loop-z : goal.invariant-loop-z
invariant-loop-z l = HasNoted l.size l.level l.wanted l.x l.y l.fn.table l.table
