use Rattle.std.proofs.Common.{◌≡◌, ◌<◌, ℕ, slice_get, Some}
use Rattle.command_schedule.specs.Answers.{Fits}
use Rattle.command_schedule.specs.declared.answer_word.AnswerWord.{AnswerWord}
use Rattle.command_schedule.proofs.answer_word.fit.Given as goal

-- those so far are what is wanted
abbrev pub invariant-loop-at : goal.invariant-loop-at
invariant-loop-at l = (k : ℕ) (w s : AnswerWord) → k < l.at → slice_get l.wanted k ≡ Some w → slice_get l.shown k ≡ Some s → Fits w s
