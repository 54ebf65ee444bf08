use Rattle.tile.proofs.Channels.{wired, apart}
use Rattle.tile.proofs.laws.agents_have_their_own_channels.Goals as goal

pub returns : goal.returns
returns c = record { wired = λ s ok t a t_in. wired s ok t t_in a; apart = apart }
