use Rattle.std.proofs.Common.{◌≡◌, ◌+◌, ◌≤◌, length}
use Rattle.std.specs.Str.Lines.{lines}
use Rattle.lexer.specs.Before.{given}
use Rattle.lexer.proofs.before.Before.given.Given as goal

abbrev pub decreases-loop-line : goal.decreases-loop-line
decreases-loop-line g l = length l.rest

abbrev pub invariant-loop-line : goal.invariant-loop-line
invariant-loop-line g l = record {
  count : l.at + length l.rest ≤ length l.self.text.now + 1;
  same : given (g.S.Sought.gives l.sought) l.self.stop l.left l.at (lines l.rest)
      ≡ given (g.S.Sought.gives l.sought) l.self.stop l.behind 1 (lines l.self.text.now);
}
