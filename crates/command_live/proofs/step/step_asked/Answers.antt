use Rattle.command_live.proofs.Steps.{few_words, many_words}
use Rattle.command_live.proofs.step.step_asked.Goals as goal

pub returns-in-len1 : goal.returns-in-len1
returns-in-len1 c = few_words _ _ c.args.words.now c.in-len1.len_below

pub returns-in-len4-up : goal.returns-in-len4-up
returns-in-len4-up c = many_words _ _ c.args.words.now c.in-len4-up.len_at_least
