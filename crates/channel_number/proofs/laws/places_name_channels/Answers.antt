use Rattle.channel_number.proofs.Orders.{index_below, one_index}
use Rattle.channel_number.proofs.Decoding.{each_index}
use Rattle.channel_number.proofs.laws.places_name_channels.Goals as goal

pub returns : goal.returns
returns c = record { below = index_below; unique = one_index; every = each_index }
