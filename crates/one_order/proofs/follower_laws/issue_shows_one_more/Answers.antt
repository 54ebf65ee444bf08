use Rattle.one_order.specs.Following.{issues}
use Rattle.one_order.proofs.follower_laws.issue_shows_one_more.Goals as goal

pub returns : goal.returns
returns c = λ lines past f o t h next before. issues past f o t h next before
