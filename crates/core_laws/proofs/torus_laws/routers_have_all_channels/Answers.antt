use Rattle.channel_number.proofs.Ports.{is_input, has_input, is_output, has_output}
use Rattle.core_laws.proofs.torus_laws.routers_have_all_channels.Goals as goal

pub returns : goal.returns
returns c = record {
  inputs = λ s depth h t i low small. let at = is_input s h t i low small in (at, at.leads);
  each_input = λ s depth h x low leads. has_input s h x low leads;
  outputs = λ s depth h t o low small. let at = is_output s t o low small in (at, at.leaves);
  each_output = λ s depth h x low leaves. has_output s x low leaves;
}
