use Rattle.std.proofs.Common.{◌≡◌, ◌++◌, map, drop}
use Rattle.sentences.specs.Ended.{ended_spin}
use Rattle.sentences.proofs.scripts.add_spins.Given as goal

-- the spins so far, and those that are left
abbrev pub invariant-loop-spin : goal.invariant-loop-spin
invariant-loop-spin g l = l.found.items ++ map (ended_spin l.processor) (drop l.spin-index l.spins)
    ≡ l.initial.found.items ++ map (ended_spin l.processor) l.spins
