use Rattle.std.proofs.Common.{◌≡◌, length, map, take}
use Rattle.std.specs.List.{range_with_len}
use Rattle.sentences.specs.Replies.{reply_in}
use Rattle.sentences.proofs.replies.replies_in.Given as goal

-- the replies by the answers so far
abbrev pub invariant-loop-answer : goal.invariant-loop-answer
invariant-loop-answer g l = l.replies.items ≡ map (reply_in (take l.answer-index l.answers)) (range_with_len 0 (length l.answers))
