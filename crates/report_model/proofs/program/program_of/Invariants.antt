use Rattle.std.proofs.Common.{◌≡◌, ◌*◌, ◌≤◌, length, drop, take}
use Rattle.report_model.specs.Programs.{AreScripted, walk_over}
use Rattle.report_model.proofs.program.program_of.Given as goal

-- the program so far, and where the processor stands
abbrev pub invariant-loop-k : goal.invariant-loop-k
invariant-loop-k g l = record {
  walk : record {
    steps = l.steps.items;
    standing = record { following = l.follower; ahead = drop l.place.at l.lines; fence = l.place.fence };
  } ≡ walk_over l.lines (take l.k l.rows);
  scripted : AreScripted l.lines l.rows l.k;
  within : l.place.at ≤ length l.lines;
  issued : l.follower.issued ≡ l.k;
  few : length l.steps.items ≤ 2 * l.k;
}
