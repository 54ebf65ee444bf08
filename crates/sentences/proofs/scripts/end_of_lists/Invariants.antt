use Rattle.std.proofs.Common.{◌≡◌, ◌≤◌, ◌+◌, ◌++◌, drop, map}
use Rattle.std.specs.Str.Lines.{lines}
use Rattle.sentences.specs.Ended.{spins_from, unfinished_in}
use Rattle.sentences.proofs.scripts.end_of_lists.Given as goal

-- what the processors so far came to, and what those that are left come to
abbrev pub invariant-loop-own : goal.invariant-loop-own
invariant-loop-own g l = record {
  place : l.processor ≡ l.own-index;
  few : l.unfinished ≤ l.processor;
  spins : l.spins.items ++ spins_from l.processor (lines l.text) (map (λ own. own.now) (drop l.own-index l.answers)) (drop l.processor l.scripts.lists)
      ≡ spins_from 0 (lines l.text) (map (λ own. own.now) l.answers) l.scripts.lists;
  unfinished : l.unfinished + unfinished_in (map (λ own. own.now) (drop l.own-index l.answers)) (drop l.processor l.scripts.lists)
      ≡ unfinished_in (map (λ own. own.now) l.answers) l.scripts.lists;
}
