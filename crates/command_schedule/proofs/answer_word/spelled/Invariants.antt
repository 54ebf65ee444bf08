use Rattle.std.proofs.Common.{◌≡◌, Some, map, take}
use Rattle.command_schedule.specs.Answers.{answer_read}
use Rattle.command_schedule.proofs.answer_word.spelled.Given as goal

-- what the words so far spell
abbrev pub invariant-loop-word : goal.invariant-loop-word
invariant-loop-word g l = answer_read (map (λ word. word.now) (take l.word-index l.words)) ≡ Some l.read.items
