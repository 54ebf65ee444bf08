use Rattle.channel_number.proofs.Decoding.{decoded, encoded}
use Rattle.channel_number.proofs.laws.places_tell_channels.Goals as goal

pub returns : goal.returns
returns c = record { place = decoded; channel = encoded }
