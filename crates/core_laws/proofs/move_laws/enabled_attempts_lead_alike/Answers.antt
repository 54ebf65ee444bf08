use Rattle.core_laws.proofs.MachineEnabled as generic
use Rattle.core_laws.proofs.move_laws.enabled_attempts_lead_alike.Goals as goal

pub returns : goal.returns
returns g c = record {
  part = λ step s cs. generic.part step s cs;
  enabled = λ step s cs. generic.enabled step s cs;
  after = λ step s cs. generic.same_after step s cs;
  all = λ step s cs are. generic.all step s cs are;
  again = λ step s cs. generic.again step s cs;
  count = λ step s cs. generic.count step s cs;
  joined = λ step s cs ds. generic.joined step s cs ds;
}
