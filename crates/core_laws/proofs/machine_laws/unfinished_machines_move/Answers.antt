use Rattle.core_laws.proofs.Moves.{lives, round_moves}
use Rattle.core_laws.proofs.machine_laws.unfinished_machines_move.Goals as goal

pub returns : goal.returns
returns c = record { live = lives; round = round_moves }
