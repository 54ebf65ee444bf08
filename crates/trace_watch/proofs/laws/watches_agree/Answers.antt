use Rattle.trace_watch.proofs.Agreeing.{agree}
use Rattle.trace_watch.proofs.laws.watches_agree.Goals as goal

pub returns : goal.returns
returns g c = agree
