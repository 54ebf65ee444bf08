use Rattle.deadlock_laws.proofs.Sets.{never_both}
use Rattle.deadlock_laws.proofs.Peeled.{rise_or_dead}
use Rattle.deadlock_laws.proofs.choices.choices_rise_or_a_dead_set_stands.Goals as goal

pub returns : goal.returns
returns c = record { either = rise_or_dead; never_both = never_both }
