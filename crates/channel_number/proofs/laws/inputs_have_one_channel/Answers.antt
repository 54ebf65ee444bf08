use Rattle.channel_number.proofs.Leading.{arrives, only_arrives}
use Rattle.channel_number.proofs.Ports.{inputs_apart}
use Rattle.channel_number.proofs.laws.inputs_have_one_channel.Goals as goal

pub returns : goal.returns
returns c = record { leads = arrives; only = only_arrives; apart = inputs_apart }
