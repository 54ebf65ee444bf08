use Rattle.std.proofs.Common.{◌≡◌, ◌++◌, length}
use Rattle.std.specs.Vec.Iter.{into_iter_items, into_iter_len}
use Rattle.script_lines.specs.Views.{lists_of}
use Rattle.machine_core.specs.Loaded.{first_tiles}
use Rattle.std.specs.Prelude.{slice_index}
use Rattle.machine_core.proofs.loading.first_tiles.Given as goal

-- the tiles so far are those of the scripts that were taken
abbrev pub invariant-loop-script : goal.invariant-loop-script
invariant-loop-script g l = record {
  scripts : l.fn.scripts.items ≡ l.yielded ++ into_iter_items l.script-iterator;
  left : into_iter_len l.script-iterator ≡ length (into_iter_items l.script-iterator);
  tiles : l.tiles.items ≡ first_tiles (record { shape = l.torus; depth = l.depth; words = l.words }) l.tags (slice_index l.rooms) (lists_of l.yielded);
}
