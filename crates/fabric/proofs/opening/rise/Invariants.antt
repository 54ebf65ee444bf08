use Rattle.std.proofs.Common.{◌≡◌, drop}
use Rattle.fabric.specs.Opening.{rises}
use Rattle.fabric.proofs.opening.rise.Given as goal

abbrev pub invariant-loop-cut : goal.invariant-loop-cut
invariant-loop-cut l = rises l.from (drop l.cut-index l.cuts) l.count ≡ rises 0 l.cuts l.count
