use Rattle.std.proofs.Common.{◌≡◌, ◌++◌, map, take}
use Rattle.lexer.specs.Joined.{joined_on}
use Rattle.command_schedule.specs.Answers.{answer_text}
use Rattle.command_schedule.proofs.outcome_text.put_answer.Given as goal

-- the words so far are put
abbrev pub invariant-loop-word : goal.invariant-loop-word
invariant-loop-word g l = l.text.items ≡ l.fn.text.items ++ joined_on (map answer_text (take l.word-index l.words))
