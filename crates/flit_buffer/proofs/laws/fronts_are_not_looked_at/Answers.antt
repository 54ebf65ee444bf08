use Rattle.flit_buffer.proofs.OwnParts.{same_granted, same_after}
use Rattle.flit_buffer.proofs.laws.fronts_are_not_looked_at.Goals as goal

pub returns : goal.returns
returns c = record {
  granted = λ a b wiring want same. same_granted a b same wiring want;
  after = λ depth a b wiring want same. same_after a b same depth wiring want;
}
