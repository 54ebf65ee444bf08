use Rattle.std.proofs.Common.{◌≡◌, ◌≤◌, ◌^◌, length}
use Rattle.trace_table.specs.Text.{words_from, words_needed}
use Rattle.trace_table.proofs.text.words_needed.Given as goal

abbrev pub invariant-loop-left : goal.invariant-loop-left
invariant-loop-left l = record {
  low : l.words ≤ 2 ^ 32;
  so_far : words_from l.words l.left ≡ words_needed l.rows;
}

abbrev pub decreases-loop-left : goal.decreases-loop-left
decreases-loop-left l = length l.left
