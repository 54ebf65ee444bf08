use Rattle.core_laws.proofs.Room.{full_reached, full_shown}
use Rattle.core_laws.proofs.asking.full_banks_serve_nothing.Goals as goal

pub returns : goal.returns
returns c = record { reached = full_reached; shown = full_shown }
