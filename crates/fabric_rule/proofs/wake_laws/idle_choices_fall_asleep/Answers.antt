use Rattle.fabric_rule.proofs.Falling as falling
use Rattle.fabric_rule.proofs.wake_laws.idle_choices_fall_asleep.Goals as goal

pub returns : goal.returns
returns c = record {
  begins = falling.all_awake;
  more = λ load run gs awake more f sleep fewer. falling.more_awake load run gs awake f sleep more fewer;
  choice = λ load run gs awake f agent choice sleep. falling.choice_falls load run gs awake f sleep agent choice;
  take = λ load run gs awake f t i sleep. falling.take_falls load run gs awake f sleep t i;
  put = λ load run gs awake f t i sleep. falling.put_falls load run gs awake f sleep t i;
  credit = λ load run gs awake f t o sleep. falling.credit_falls load run gs awake f sleep t o;
}
