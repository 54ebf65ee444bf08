use Rattle.channel_number.proofs.Leading.{output_within, output_is}
use Rattle.channel_number.proofs.Ports.{outputs_apart}
use Rattle.channel_number.proofs.laws.outputs_have_one_channel.Goals as goal

pub returns : goal.returns
returns c = record { within = output_within; channel = output_is; apart = outputs_apart }
