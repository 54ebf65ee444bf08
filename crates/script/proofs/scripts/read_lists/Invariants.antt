use Rattle.std.proofs.Common.{◌≡◌, ◌+◌, ◌≤◌, [], length, replicate, vec_len}
use Rattle.std.specs.Str.Lines.{lines}
use Rattle.script.specs.Scripts.{scripts_from}
use Rattle.script_lines.specs.Views.{lists_of}
use Rattle.script.specs.ScriptViews.{IsCounted}
use Rattle.script.proofs.scripts.read_lists.Given as goal

abbrev pub decreases-loop-line : goal.decreases-loop-line
decreases-loop-line g l = length l.rest

abbrev pub invariant-loop-line : goal.invariant-loop-line
invariant-loop-line g l = record {
  count : l.number + length l.rest ≤ length l.text + 1;
  positive : 1 ≤ l.number;
  counted : IsCounted l.progress;
  words : l.progress.words ≡ l.words;
  tiles : vec_len l.progress.lists ≡ l.tiles;
  reads : scripts_from l.words (lists_of l.progress.lists.items) l.number (lines l.rest) ≡ scripts_from l.words (replicate l.tiles []) 1 (lines l.text);
}
