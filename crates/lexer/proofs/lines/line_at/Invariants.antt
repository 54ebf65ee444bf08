use Rattle.std.proofs.Common.{◌≡◌, ◌+◌, ◌≤◌, length}
use Rattle.std.specs.Str.Lines.{lines}
use Rattle.lexer.specs.Words.{line_at}
use Rattle.lexer.proofs.lines.line_at.Given as goal

abbrev pub decreases-loop-line : goal.decreases-loop-line
decreases-loop-line l = length l.rest

abbrev pub invariant-loop-line : goal.invariant-loop-line
invariant-loop-line l = record {
  count : l.at + length l.rest ≤ length l.text + 1;
  same : line_at l.wanted l.at (lines l.rest) ≡ line_at l.wanted 1 (lines l.text);
}
