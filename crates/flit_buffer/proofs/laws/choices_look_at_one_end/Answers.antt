use Rattle.flit_buffer.proofs.OwnParts.{same_steps}
use Rattle.flit_buffer.proofs.laws.choices_look_at_one_end.Goals as goal

pub returns : goal.returns
returns g c = λ wants after depth wiring state a b choice same. same_steps a b wiring wants after depth state choice same
