use Rattle.std.proofs.Common.{◌≡◌, ◌+◌, ◌≤◌, length}
use Rattle.std.specs.Str.Lines.{lines}
use Rattle.model_text.specs.Views.{log_so_far}
use Rattle.model_replies.specs.Reading.{values_from, values_of}
use Rattle.model_replies.proofs.reading.read_values.Given as goal

abbrev pub decreases-loop-line : goal.decreases-loop-line
decreases-loop-line g l = length l.rest

abbrev pub invariant-loop-line : goal.invariant-loop-line
invariant-loop-line g l = record {
  count : l.number + length l.rest ≤ length l.text + 1;
  positive : 1 ≤ l.number;
  reads : values_from (log_so_far l.log) l.number (lines l.rest) ≡ values_of (lines l.text);
}
