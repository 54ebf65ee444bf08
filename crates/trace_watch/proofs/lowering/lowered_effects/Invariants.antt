use Rattle.std.proofs.Common.{take}
use Rattle.trace_watch.specs.Lowered.{AreLowered}
use Rattle.trace_watch.proofs.lowering.lowered_effects.Given as goal

abbrev pub invariant-loop-i : goal.invariant-loop-i
invariant-loop-i g l = AreLowered l.calls (take l.i l.effects) l.lowered.items
