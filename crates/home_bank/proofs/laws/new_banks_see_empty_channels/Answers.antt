use Rattle.home_bank.proofs.EmptyChannels.{ports_shown, is_wired}
use Rattle.home_bank.proofs.laws.new_banks_see_empty_channels.Goals as goal

pub returns : goal.returns
returns c = record { ports = ports_shown; wired = is_wired }
