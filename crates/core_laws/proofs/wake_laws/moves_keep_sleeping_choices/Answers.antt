use Rattle.core_laws.proofs.Choices as choices
use Rattle.core_laws.proofs.wake_laws.moves_keep_sleeping_choices.Goals as goal

pub returns : goal.returns
returns c = record {
  all = choices.all_awake;
  kept = λ l ok steps attempt op next awake by moves sleep. choices.kept l ok steps attempt op by next moves awake sleep;
  enabled = λ l ok steps attempt other op by m. choices.enabled l ok steps attempt op by other m;
  agents = λ d s awake agent sleep none choice. sleep agent choice (none choice);
}
