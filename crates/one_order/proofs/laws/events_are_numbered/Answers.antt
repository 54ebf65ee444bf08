use Rattle.one_order.proofs.EventNumbers.{numbers}
use Rattle.one_order.proofs.laws.events_are_numbered.Goals as goal

pub returns : goal.returns
returns c = numbers
