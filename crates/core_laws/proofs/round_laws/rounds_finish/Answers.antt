use Rattle.core_laws.proofs.Rounds as rounds
use Rattle.core_laws.proofs.round_laws.rounds_finish.Goals as goal

pub returns : goal.returns
returns g c = record {
  falls = λ step round finished reached left is s cs at. rounds.work_falls step round finished reached left is s cs at;
  finish = λ step round finished reached left is s at. rounds.work_ends step round finished reached left is s at;
}
