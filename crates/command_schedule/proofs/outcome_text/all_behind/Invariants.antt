use Rattle.std.proofs.Common.{◌≡◌, take}
use Rattle.std.specs.List.{flat_map}
use Rattle.command_schedule.specs.Answers.{replies_behind}
use Rattle.command_schedule.proofs.outcome_text.all_behind.Given as goal

-- those of the processors so far are added
abbrev pub invariant-loop-replies : goal.invariant-loop-replies
invariant-loop-replies g l = l.words.items ≡ flat_map (λ replies. replies_behind replies.items) (take l.replies-index l.shown)
