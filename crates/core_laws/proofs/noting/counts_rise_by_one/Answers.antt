use Rattle.core_laws.proofs.Notes.{risen, level_left}
use Rattle.core_laws.proofs.noting.counts_rise_by_one.Goals as goal

pub returns : goal.returns
returns c = record { rise = risen; nothing = level_left }
