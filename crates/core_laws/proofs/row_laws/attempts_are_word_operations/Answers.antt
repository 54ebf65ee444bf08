use Rattle.core_laws.proofs.RowOfRuns as reached
use Rattle.core_laws.proofs.row_laws.attempts_are_word_operations.Goals as goal

pub returns : goal.returns
returns c = record { tiles = reached.tiles_there; surrounded = reached.surrounded; possible = reached.possible_there; operations = reached.is_operation }
