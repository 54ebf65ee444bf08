use Rattle.trace_answer.proofs.Whole.{text_whole}
use Rattle.trace_answer.proofs.laws.texts_are_whole.Goals as goal

pub returns : goal.returns
returns c = text_whole
