use Rattle.channel_number.proofs.Ports.{is_input, has_input, is_output, has_output}
use Rattle.channel_number.proofs.laws.routers_have_all_channels.Goals as goal

pub returns : goal.returns
returns c = record {
  inputs = is_input;
  each_input = has_input;
  outputs = λ s h t o low small. is_output s t o low small;
  each_output = λ s h x low leaves. has_output s x low leaves;
}
