use Rattle.std.proofs.Common.{◌≡◌, length, map, take}
use Rattle.std.specs.Io.Iter.{u64_saturate}
use Rattle.std.specs.List.{sum_by}
use Rattle.sentences.proofs.scripts.answered_in.Given as goal

-- the answers of the processors so far are counted
abbrev pub invariant-loop-own : goal.invariant-loop-own
invariant-loop-own l = l.count ≡ u64_saturate (sum_by length (map (λ own. own.now) (take l.own-index l.answers)))
