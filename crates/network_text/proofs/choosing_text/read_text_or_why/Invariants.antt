use Rattle.std.proofs.Common.{◌≡◌, ◌+◌, ◌≤◌, length}
use Rattle.std.specs.Str.Lines.{lines}
use Rattle.network_text.specs.Choosing.{text_from, text_or_why}
use Rattle.network_text.specs.ChoosingRead.{choosing_text_of, IsChoosingRead}
use Rattle.network_text.proofs.choosing_text.read_text_or_why.Given as goal

abbrev pub decreases-loop-line : goal.decreases-loop-line
decreases-loop-line g l = length l.rest

abbrev pub invariant-loop-line : goal.invariant-loop-line
invariant-loop-line g l = record {
  count : l.number + length l.rest ≤ length l.text + 1;
  positive : 1 ≤ l.number;
  read : IsChoosingRead l.reading;
  reads : text_from l.routers (choosing_text_of l.reading) l.number (lines l.rest) ≡ text_or_why l.routers (lines l.text);
}
