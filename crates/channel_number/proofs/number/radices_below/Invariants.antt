use Rattle.std.proofs.Common.{◌≡◌, ◌*◌, ◌≤◌, take}
use Rattle.std.specs.Prelude.{sum}
use Rattle.channel_number.proofs.number.radices_below.Given as goal

abbrev pub invariant-loop-d : goal.invariant-loop-d
invariant-loop-d l = record {
  total : l.total ≡ sum (take l.d l.torus.radices);
  small : l.total ≤ 8 * l.d;
}
