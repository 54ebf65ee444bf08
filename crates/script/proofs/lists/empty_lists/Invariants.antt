use Rattle.std.proofs.Common.{◌≡◌, [], replicate, vec_len}
use Rattle.script_lines.specs.Views.{lists_of}
use Rattle.script.proofs.lists.empty_lists.Given as goal

abbrev pub invariant-loop-tile : goal.invariant-loop-tile
invariant-loop-tile g l = record {
  lists : lists_of l.lists.items ≡ replicate l.tile [];
  tiles : vec_len l.lists ≡ l.tile;
}
