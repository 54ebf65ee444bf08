use Rattle.one_order.specs.Following.{answers}
use Rattle.one_order.proofs.follower_laws.answer_shows_it.Goals as goal

pub returns : goal.returns
returns c = λ lines past f i o t reply h at open_. answers past f i o t reply h at open_
