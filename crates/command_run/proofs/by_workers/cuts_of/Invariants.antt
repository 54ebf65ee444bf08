use Rattle.std.proofs.Common.{◌≡◌, map}
use Rattle.std.specs.List.{range_with_len}
use Rattle.arrayvec.specs.ArrayVec.{array_vec_len}
use Rattle.command_run.specs.Workers.{first_held}
use Rattle.command_run.proofs.by_workers.cuts_of.Given as goal

-- the cuts so far are there
abbrev pub invariant-loop-before : goal.invariant-loop-before
invariant-loop-before l = record {
  count : array_vec_len l.cuts ≡ l.before;
  cuts : l.cuts.items ≡ map (first_held l.tiles l.crew) (range_with_len 1 l.before);
}
