use Rattle.std.proofs.Common.{◌∙◌, length}
use Rattle.sentences.proofs.Noted.{none_noted}
use Rattle.sentences.proofs.replies.replies_in.Goals as goal

pub loop-answer-init : goal.loop-answer-init
loop-answer-init g c = c.in_ok-replies.ensures ∙ none_noted (length c.args.answers.now)
