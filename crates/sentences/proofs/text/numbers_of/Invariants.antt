use Rattle.std.proofs.Common.{◌≡◌, ◌+◌, ◌++◌, ◌≤◌, length}
use Rattle.std.specs.Str.Lines.{lines}
use Rattle.sentences.specs.Texts.{numbers_from}
use Rattle.sentences.proofs.text.numbers_of.Given as goal

abbrev pub decreases-loop-line : goal.decreases-loop-line
decreases-loop-line g l = length l.rest

-- the numbers so far, and those of the lines that are left
abbrev pub invariant-loop-line : goal.invariant-loop-line
invariant-loop-line g l = record {
  count : l.number + length l.rest ≤ length l.text + 1;
  positive : 1 ≤ l.number;
  reads : l.numbers.items ++ numbers_from l.processor l.number (lines l.rest) ≡ numbers_from l.processor 1 (lines l.text);
}
