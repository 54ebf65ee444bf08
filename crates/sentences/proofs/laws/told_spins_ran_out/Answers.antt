use Rattle.sentences.proofs.RunningOut.{told_ran_out}
use Rattle.sentences.proofs.RanOutTold.{ran_out_told}
use Rattle.sentences.proofs.laws.told_spins_ran_out.Goals as goal

pub returns : goal.returns
returns c = λ script replies spin. (told_ran_out script replies spin, ran_out_told script replies spin)
