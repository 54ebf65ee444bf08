use Rattle.net_interface.proofs.EmptyChannels.{ports_shown, is_wired}
use Rattle.net_interface.proofs.laws.new_processors_see_empty_channels.Goals as goal

pub returns : goal.returns
returns c = record { ports = ports_shown; wired = is_wired }
