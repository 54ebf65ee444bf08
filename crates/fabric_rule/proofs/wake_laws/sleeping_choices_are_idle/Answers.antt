use Rattle.fabric_rule.proofs.Falling as falling
use Rattle.fabric_rule.proofs.Flags.{unready}
use Rattle.fabric_rule.proofs.wake_laws.sleeping_choices_are_idle.Goals as goal

pub returns : goal.returns
returns c = record {
  choice = λ load run gs awake f x sleep out. falling.choice_idle load run gs awake f sleep x out;
  take = λ load run gs awake f t i sleep out. falling.take_idle load run gs awake f sleep t i out;
  put = λ load run gs awake f t i sleep out. falling.put_idle load run gs awake f sleep t i out;
  credit = λ load run gs awake f t o sleep out. falling.credit_idle load run gs awake f sleep t o out;
  unready = unready;
}
