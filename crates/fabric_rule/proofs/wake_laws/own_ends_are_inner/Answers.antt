use Rattle.fabric_rule.proofs.OwnEnds as ends
use Rattle.fabric_rule.proofs.wake_laws.own_ends_are_inner.Goals as goal

pub returns : goal.returns
returns c = record {
  processor = λ s gs t mine. ends.of_processor s t gs mine;
  bank = λ s gs t mine. ends.of_bank s t gs mine;
  all = ends.own_inner;
}
