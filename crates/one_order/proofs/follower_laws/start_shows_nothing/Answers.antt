use Rattle.one_order.specs.Following.{starts}
use Rattle.one_order.proofs.follower_laws.start_shows_nothing.Goals as goal

pub returns : goal.returns
returns c = λ lines. starts
