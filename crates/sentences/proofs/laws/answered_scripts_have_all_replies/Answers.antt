use Rattle.sentences.proofs.AllAnswered.{all_replied, replied_all}
use Rattle.sentences.proofs.laws.answered_scripts_have_all_replies.Goals as goal

pub returns : goal.returns
returns c = λ script replies. (replied_all script replies, λ h. all_replied script replies h.0 h.1 h.2 h.3)
