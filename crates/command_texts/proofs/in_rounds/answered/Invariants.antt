use Rattle.std.proofs.Common.{◌≡◌, take, length}
use Rattle.std.specs.Io.Iter.{u64_saturate}
use Rattle.std.specs.List.{sum_by}
use Rattle.core_laws.specs.Machine.{shown}
use Rattle.command_texts.proofs.in_rounds.answered.Given as goal

-- the answers of the processors so far are counted
abbrev pub invariant-loop-processor : goal.invariant-loop-processor
invariant-loop-processor g l = l.count ≡ u64_saturate (sum_by length (take l.processor (shown l.machine).answers))
