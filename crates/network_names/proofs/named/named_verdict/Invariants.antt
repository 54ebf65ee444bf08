use Rattle.std.proofs.Common.{◌≡◌, ◌++◌, length}
use Rattle.std.specs.Str.Lines.{lines}
use Rattle.network_names.specs.Named.{named_verdict}
use Rattle.network_names.proofs.named.named_verdict.Given as goal

abbrev pub decreases-loop-line : goal.decreases-loop-line
decreases-loop-line g l = length l.rest

abbrev pub invariant-loop-line : goal.invariant-loop-line
invariant-loop-line g l =
    l.out.items ++ named_verdict l.room (lines l.text) l.kinds l.chosen l.rest
    ≡ named_verdict l.room (lines l.text) l.kinds l.chosen l.verdict
