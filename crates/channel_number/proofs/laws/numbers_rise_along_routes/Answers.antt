use Rattle.channel_number.proofs.Climb.{numbers_rise}
use Rattle.channel_number.proofs.laws.numbers_rise_along_routes.Goals as goal

pub returns : goal.returns
returns c = numbers_rise
