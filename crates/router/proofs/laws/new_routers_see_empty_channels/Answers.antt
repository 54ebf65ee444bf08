use Rattle.router.proofs.EmptyChannels.{ports_shown, is_wired}
use Rattle.router.proofs.laws.new_routers_see_empty_channels.Goals as goal

pub returns : goal.returns
returns c = record { ports = ports_shown; wired = is_wired }
