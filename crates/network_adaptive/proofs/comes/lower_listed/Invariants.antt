use Rattle.network_adaptive.proofs.Lowered.{AreLoweredSo}
use Rattle.network_adaptive.proofs.comes.lower_listed.Given as goal

-- the flags listed so far are lowered
abbrev pub invariant-loop-k : goal.invariant-loop-k
invariant-loop-k l = AreLoweredSo l.initial.flags l.flags l.list l.k
