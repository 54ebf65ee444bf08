use Rattle.std.proofs.Common.{◌≡◌, ◌++◌, map, take}
use Rattle.command_schedule.specs.Answers.{told}
use Rattle.command_schedule.proofs.outcome_text.push_told.Given as goal

-- the words of the replies so far are added
abbrev pub invariant-loop-reply : goal.invariant-loop-reply
invariant-loop-reply g l = l.words.items ≡ l.fn.words.items ++ map told (take l.reply-index l.replies)
