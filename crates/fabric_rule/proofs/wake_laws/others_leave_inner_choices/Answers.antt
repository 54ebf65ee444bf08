use Rattle.fabric_rule.proofs.Undisturbed.{many}
use Rattle.fabric_rule.proofs.Flags as flags
use Rattle.fabric_rule.proofs.wake_laws.others_leave_inner_choices.Goals as goal

pub returns : goal.returns
returns c = record {
  same = λ load ok gs run between x mine inner others. many load ok gs x mine inner run between others;
  longest = flags.longest_idle;
  attempt = flags.attempt_idle;
}
