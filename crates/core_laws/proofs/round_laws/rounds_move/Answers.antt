use Rattle.core_laws.proofs.Rounds as rounds
use Rattle.core_laws.proofs.round_laws.rounds_move.Goals as goal

pub returns : goal.returns
returns g c = λ step s d cs. rounds.round_moves step s d cs
