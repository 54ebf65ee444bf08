use Rattle.trace_laws.proofs.Sound.{sound_all}
use Rattle.trace_laws.proofs.search_laws.branches_give_an_order.Goals as goal

pub returns : goal.returns
returns c = λ opening trace k tables sets nodes is all pick trails marks picks.
    sound_all opening trace k tables sets nodes all is.sound pick trails marks picks
