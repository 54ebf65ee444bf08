use Rattle.std.proofs.Common.{◌≡◌, ◌+◌, ◌≤◌, length}
use Rattle.std.specs.Str.Lines.{lines}
use Rattle.script.specs.Machine.{machine_from, machine_or_why}
use Rattle.script.specs.MachineViews.{reading_of, IsChecked}
use Rattle.script.proofs.machine.read_machine_or_why.Given as goal

abbrev pub decreases-loop-line : goal.decreases-loop-line
decreases-loop-line g l = length l.rest

abbrev pub invariant-loop-line : goal.invariant-loop-line
invariant-loop-line g l = record {
  count : l.number + length l.rest ≤ length l.text + 1;
  positive : 1 ≤ l.number;
  checked : IsChecked (reading_of l.reading);
  reads : machine_from (reading_of l.reading) l.number (lines l.rest) ≡ machine_or_why (lines l.text);
}
