use Rattle.std.proofs.Common.{◌≡◌, drop}
use Rattle.trace_judge.specs.Idles.{settled}
use Rattle.trace_judge.proofs.idles.settle.Given as goal

abbrev pub invariant-loop-i : goal.invariant-loop-i
invariant-loop-i l = settled (drop l.i l.idles) l.calmer ≡ settled l.idles l.fn.config
